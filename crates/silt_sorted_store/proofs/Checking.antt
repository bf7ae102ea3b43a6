-- A walk over the keys of entries: the findings so far, and which keys the index has.
use Rattle.silt_sorted_store.proofs.Common.{◌≡◌, ℕ, ◌+◌, ◌-◌, ◌<◌, Bool, true, false, not, List, [], ◌∷◌, ◌++◌, length, take, slice_get, Option, Some, None, inl, inr, refl, ap, ◌∙◌, arith}
use Rattle.silt_sorted_store.proofs.Common.{cases_lt, length-map, take_all, take_more, StoredRow, keys_of, Key, nothing_where_passes, IsIndexing, IsKeyBefore}
use Rattle.silt_sorted_store.specs.Findings.{entry_findings, is_key_below, sorted_findings}
use Rattle.silt_event.specs.Findings.{finding_if}
use Rattle.silt_event.specs.declared.damage.Finding.{Finding}
use Rattle.silt_sorted_store.specs.Rebuild.{IsFirstOutOfOrder}
use Rattle.silt_sorted_store.proofs.Ranges.{none_of_all, first_of_range}
use Rattle.silt_sorted_store.proofs.Rising.{key_at}
use Rattle.silt_trie.specs.Building.{Building, IsBuildingOf, is_above}

-- a test that fails gives its finding
found_where_fails : (test : Bool) (f : Finding) → test ≡ false → slice_get (finding_if (not test) f) 0 ≡ Some f
found_where_fails true f fails = absurd (cc)
found_where_fails false f fails = refl

module _ (rows : List StoredRow) (place : ℕ) where
  -- the test of an entry's key against the one before it is that against the last key
  last_decides : (last key : List ℕ) (test : Bool) → key_at rows (place - 1) ≡ last → key_at rows place ≡ key → is_key_below last key ≡ test
      → is_key_below (key_at rows (place - 1)) (key_at rows place) ≡ test
  last_decides last key test before is decides = ap (λ k. is_key_below k (key_at rows place)) before ∙ ap (is_key_below last) is ∙ decides

  -- there is no finding at an entry whose key is greater than the last one
  fine_here : (last : Option Key) (key : List ℕ) → IsKeyBefore rows place last → 0 < place → key_at rows place ≡ key → is_above last key ≡ true → entry_findings rows place ≡ []
  fine_here last key before least is above = search (arith, nothing_where_passes, last_decides)

  -- the first entry whose key is not
  damaged_here : (last : Option Key) (key : List ℕ) → place < length rows → ((earlier : ℕ) → 0 < earlier → earlier < place → entry_findings rows earlier ≡ [])
      → IsKeyBefore rows place last → key_at rows place ≡ key
      → is_above last key ≡ false → IsFirstOutOfOrder rows place
  unfolding sorted_findings
  damaged_here None key inside fine before is fails = absurd (cc)
  damaged_here (Some last) key inside fine before is fails =
      first_of_range (entry_findings rows) 1 _ place _ (omega (arith, before.0)) (omega (arith, inside)) fine (search (arith, found_where_fails, last_decides))

module _ (rows : List StoredRow) where
  -- no key was taken yet
  pub indexing_none : (builder : Building) → IsBuildingOf [] builder → builder.last ≡ None → IsIndexing rows 0 builder
  indexing_none builder empty none = search arith

  -- one more key was taken
  pub indexing_more : (place : ℕ) (old new : Building) (key : Key) → place < length rows → IsIndexing rows place old → key_at rows place ≡ key.0 → is_above old.last key.0 ≡ true
      → ((keys : List (List ℕ)) → IsBuildingOf keys old → IsBuildingOf (keys ++ key.0 ∷ []) new) → new.last ≡ Some key → IsIndexing rows (place + 1) new
  indexing_more place old new key inside so_far is above builds last =
      let here : place + 1 - 1 ≡ place = omega arith in
      let keys : take (place + 1) (keys_of rows) ≡ take place (keys_of rows) ++ key.0 ∷ [] =
      cc (take_more (keys_of rows) place [] (omega (arith, length-map rows (λ (r : StoredRow). r.key), inside))) in
      record {
        built = rw (← keys) at (builds (take place (keys_of rows)) so_far.built);
        last = rw last (omega arith, ap (key_at rows) here ∙ is);
        fine = λ earlier least below. elim (cases_lt earlier place) [
          | inl lower ↦ so_far.fine earlier least lower
          | inr upto ↦
              let same : earlier ≡ place = omega arith in
              cc (fine_here rows place old.last key.0 so_far.last (omega arith) is above)
        ];
      }

  -- the next key is not above the last one
  pub indexing_refused : (place : ℕ) (builder : Building) (key : List ℕ) → place < length rows → IsIndexing rows place builder
      → key_at rows place ≡ key → is_above builder.last key ≡ false → IsFirstOutOfOrder rows place
  indexing_refused place builder key inside so_far is fails = damaged_here rows place builder.last key inside so_far.fine so_far.last is fails

  -- there is no finding in entries whose keys were all taken
  pub indexing_fine : (place : ℕ) (builder : Building) → length rows ≡ place → IsIndexing rows place builder → sorted_findings rows ≡ []
  unfolding sorted_findings
  indexing_fine place builder long all = none_of_all (entry_findings rows) 1 (length rows - 1) (λ other low high. all.fine other low (omega (arith, low, high, long)))

  -- and the builder has all keys
  pub indexing_all : (place : ℕ) (builder : Building) → length rows ≡ place → IsIndexing rows place builder → IsBuildingOf (keys_of rows) builder
  indexing_all place builder long all = rw (take_all place (keys_of rows) (omega (arith, length-map rows (λ (r : StoredRow). r.key), long))) at all.built
