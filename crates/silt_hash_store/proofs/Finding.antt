-- The row of a key among the slots of its two buckets.
use Rattle.silt_hash_store.proofs.Common.{◌≡◌, ℕ, ◌<◌, false, List, length, get_or, Option, Some, None, Result, Ok, Err, IfOk, ap, ◌∙◌, arith, eqb-true, All-from_get_or, list_any_none}
use Rattle.silt_hash_store.proofs.Common.{bytes_eq-Decides, first_bucket, second_bucket, Kind, has_tag_of, is_row_of, rows_before, slot_row, StoredRow, Found, FindsIn, FindsRow, MatchesKey}
use Rattle.silt_hash_store.proofs.Common.{MatchesTag, HashState, IsTagged}
use Rattle.silt_hash_store.specs.Findings.{holds_key}
use Rattle.silt_hash_store.proofs.Marking.{lacks_tag}
use Rattle.silt_hash_store.proofs.Slotting.{before_at, before_count, before_there}

-- a kind that was found, or not, in a slot with the tag
pub tag_matches : (at : Option ℕ) (tag : ℕ) (row : StoredRow) (key : List ℕ) (kind : Option Kind) → at ≡ Some tag → MatchesKey row key kind → MatchesTag at tag row key kind
tag_matches at tag row key None same matches = λ _. matches
tag_matches at tag row key (Some kind) same matches = (same, matches.0, matches.1)

-- a test that fails for every row
pub holds_none : (key : List ℕ) (rows : List StoredRow) (d : StoredRow) → ((i : ℕ) → i < length rows → is_row_of key (get_or rows i d) ≡ false) → holds_key key rows ≡ false
holds_none key rows d none = list_any_none (is_row_of key) rows (All-from_get_or (λ (row : StoredRow). is_row_of key row ≡ false) rows d none)

module _ (store : HashState) (image : List ℕ) (count : ℕ) (is : IsTagged store image count) (key : List ℕ) where
  abbrev row_in : ℕ → StoredRow
  row_in slot = slot_row store.shape store.region image slot

  -- a row that was found is one of the rows before
  pub row_found : (bucket tag : ℕ) (found : Found) → FindsIn store.shape store.region store.tags image bucket tag key (Some found)
      → FindsRow (rows_before store.shape store.region image count) key (Some found)
  row_found bucket tag found (tagged, here, kind) = grind (arith, before_there, bytes_eq-Decides)

  -- a slot of the rows before with the key has a tag that is looked for
  slot_lacks : (slot : ℕ) → slot < count
      → FindsIn store.shape store.region store.tags image (first_bucket store.shape.buckets key) (second_bucket store.shape.buckets key) key None
      → FindsIn store.shape store.region store.tags image (second_bucket store.shape.buckets key) (first_bucket store.shape.buckets key) key None
      → is_row_of key (row_in slot) ≡ false
  slot_lacks slot below first_none second_none = search (arith, eqb-true)

  -- if neither bucket has a row of the key, no row before has it
  pub none_found : FindsIn store.shape store.region store.tags image (first_bucket store.shape.buckets key) (second_bucket store.shape.buckets key) key None
      → FindsIn store.shape store.region store.tags image (second_bucket store.shape.buckets key) (first_bucket store.shape.buckets key) key None
      → FindsRow (rows_before store.shape store.region image count) key None
  none_found first_none second_none =
      let d : StoredRow = row_in 0 in
      holds_none key (rows_before store.shape store.region image count) d (λ i below.
      let under : i < count = omega (arith, below, before_count store.shape store.region image count) in
      ap (is_row_of key) (before_at store.shape store.region image count i d under) ∙ slot_lacks i under first_none second_none)

  -- if neither bucket has a tag of the key, no row before has it
  pub untagged_none : false ≡ has_tag_of store.tags store.shape.buckets key → FindsRow (rows_before store.shape store.region image count) key None
  untagged_none lacks = grind (arith, none_found, lacks_tag)

  -- the result of the second bucket, if the first has no row of the key
  pub second_decides : (found : Option Found) → FindsIn store.shape store.region store.tags image (first_bucket store.shape.buckets key) (second_bucket store.shape.buckets key) key None
      → FindsIn store.shape store.region store.tags image (second_bucket store.shape.buckets key) (first_bucket store.shape.buckets key) key found
      → FindsRow (rows_before store.shape store.region image count) key found
  second_decides None first_none finds = none_found first_none finds
  second_decides (Some found) first_none finds = search (arith, row_found)

  -- the same for buckets under other names
  pub both_decide : (buckets first second : ℕ) (found : Option Found) → buckets ≡ store.shape.buckets → first ≡ first_bucket buckets key → second ≡ second_bucket buckets key
      → FindsIn store.shape store.region store.tags image first second key None → FindsIn store.shape store.region store.tags image second first key found
      → FindsRow (rows_before store.shape store.region image count) key found
  both_decide buckets first second found same first_is second_is first_none finds = grind (arith, second_decides)

  -- one bucket decides if both are the same
  pub one_decides : (buckets first second : ℕ) → buckets ≡ store.shape.buckets → first ≡ first_bucket buckets key → second ≡ second_bucket buckets key → first ≡ second
      → FindsIn store.shape store.region store.tags image first second key None → FindsRow (rows_before store.shape store.region image count) key None
  one_decides buckets first second same first_is second_is one first_none =
      let turned : FindsIn store.shape store.region store.tags image second second key None = search arith in
      both_decide _ first second None same first_is second_is first_none (search arith)

-- a weaker promise of a result that is Ok
pub weaker_ok : {T E : Type 0} (r : Result T E) (P Q : T → Type 0) → ((x : T) → P x → Q x) → IfOk r P → IfOk r Q
weaker_ok (Ok x) P Q step holds = step x holds
weaker_ok (Err e) P Q step holds = tt
