-- What the table of some keys holds: the newest place of each key.
use Rattle.silt_cuckoo.proofs.Common.{◌≡◌, ◌≢◌, inl, inr, ℕ, ◌*◌, ◌/◌, ◌<◌, true, List, [], ◌∷◌, ◌++◌, length, fold, get_or, Some, None, option_map, refl, sym, subst, ap, ◌∙◌, arith}
use Rattle.silt_cuckoo.proofs.Common.{length-append, length-set, bytes_eq-Decides, length-replicate, cases_eq, cases_lt, cases_Bool, Slots, Entry, IsTable, IsBucketCount, HoldsPlace, bucket_count}
use Rattle.silt_cuckoo.proofs.Common.{empty_slots, entry_at, tag_at, place_at, placed, replaced, has_place, AddsPair, TakesSlot, first_bucket, second_bucket, key_pair, eq-eqb, ne_eqb, cases_order}
use Rattle.silt_cuckoo.proofs.Common.{IndexLaw, get_or_append_left, get_or_push}
use Rattle.silt_cuckoo.specs.Index.{Index, is_entry_of, slot_of_key, IsNewest, Indexes, added, indexed}
use Rattle.silt_cuckoo.proofs.Search.{found_in_range, none_in_range, some_or_none}
use Rattle.silt_cuckoo.proofs.Paths.{entry_inside}
use Rattle.silt_cuckoo.proofs.Placed.{has_entry, has_place_is, is_has_place, table_pairs-held, table_law, pair_law}
use Rattle.silt_cuckoo.proofs.Tables.{empty_table}
use Rattle.silt_cuckoo.proofs.Replaced.{replace_law}
use Rattle.silt_cuckoo.proofs.Places.{empty_below, held_before, holds_from_pair, pair_held}
use Rattle.silt_cuckoo.proofs.KeyIndex.{next_index, stays_none, indexed_keys}

-- the key at the end
at_last : (keys : List (List ℕ)) (key : List ℕ) → get_or (keys ++ key ∷ []) (length keys) [] ≡ key
at_last keys key = get_or_push keys key [] (length keys) refl

-- the keys before it stay
at_before : (keys : List (List ℕ)) (key : List ℕ) (place : ℕ) → place < length keys → get_or (keys ++ key ∷ []) place [] ≡ get_or keys place []
at_before keys key place low = get_or_append_left keys (key ∷ []) [] place low

-- a further key is the newest
newest_last : (keys : List (List ℕ)) (key : List ℕ) → IsNewest (keys ++ key ∷ []) (length keys)
newest_last keys key = (omega (arith, length-append keys (key ∷ [])), λ later low high. absurd (omega (arith, length-append keys (key ∷ []))))

-- another key's newest place stays the newest
newest_before : (keys : List (List ℕ)) (key : List ℕ) (place : ℕ) → IsNewest keys place → get_or keys place [] ≢ key → IsNewest (keys ++ key ∷ []) place
newest_before keys key place (low, none) other = search (arith, length-append, cases_lt, at_before, get_or_push)

-- and was it before
before_newest : (keys : List (List ℕ)) (key : List ℕ) (place : ℕ) → IsNewest (keys ++ key ∷ []) place → place ≢ length keys → IsNewest keys place × (get_or keys place [] ≢ key)
before_newest keys key place (low, none) other =
    let there : place < length keys = omega (arith, length-append keys (key ∷ [])) in (
      (there, λ later above below same. none later above (omega (arith, length-append keys (key ∷ []))) (at_before keys key later below ∙ same ∙ sym (at_before keys key place there))),
      λ same. none (length keys) there (omega (arith, length-append keys (key ∷ []))) (at_last keys key ∙ sym same ∙ sym (at_before keys key place there)),
    )

-- a key has one newest place
pub newest_apart : (keys : List (List ℕ)) (p q : ℕ) → IsNewest keys p → IsNewest keys q → get_or keys p [] ≡ get_or keys q [] → p ≡ q
newest_apart keys p q (p_low, p_none) (q_low, q_none) same = search (arith, cases_order)

-- a slot that has the key
pub has_key_is : (keys : List (List ℕ)) (slots : Slots) (key : List ℕ) (slot : ℕ) → is_entry_of keys slots key slot ≡ true → (e : Entry) × (entry_at slots slot ≡ Some e) × (get_or keys e.1 [] ≡ key)
has_key_is keys slots key slot h = search (arith, some_or_none, bytes_eq-Decides)

-- a slot whose entry is that of the key passes the test
pub is_has_key : (keys : List (List ℕ)) (slots : Slots) (key : List ℕ) (slot : ℕ) (e : Entry) → entry_at slots slot ≡ Some e → get_or keys e.1 [] ≡ key → is_entry_of keys slots key slot ≡ true
is_has_key keys slots key slot e is same = let test = (bytes_eq-Decides (get_or keys e.1 []) key).1 same in rw (is, test) refl

-- if no slot has the key, no place in the table belongs to the key
pub no_key : (keys : List (List ℕ)) (slots : Slots) (key : List ℕ) (place : ℕ) → slot_of_key keys slots key ≡ None → HoldsPlace slots place → get_or keys place [] ≢ key
no_key keys slots key place none (slot, held) same =
    let entry = has_entry slots slot place held in
    let there = entry_inside slots slot entry.0 entry.1 in
    let fails = none_in_range (is_entry_of keys slots key) 0 (length slots) none slot (omega arith) (omega arith) in
    search (arith, is_has_key)

-- a key's buckets are the table's
key_there : (slots : Slots) (buckets : ℕ) (keys : List (List ℕ)) (key : List ℕ) → Indexes slots buckets keys
    → (first_bucket buckets key < bucket_count slots) × (second_bucket buckets key < bucket_count slots)
key_there slots buckets keys key index = search arith

-- a key that is placed
pub step_placed : (slots new : Slots) (buckets : ℕ) (keys : List (List ℕ)) (key : List ℕ) → Indexes slots buckets keys → slot_of_key keys slots key ≡ None
    → placed slots (first_bucket buckets key) (second_bucket buckets key) (length keys) ≡ Some new → Indexes new buckets (keys ++ key ∷ [])
step_placed slots new buckets keys key index none e = record {
  table = kept.0;
  count = ap (λ n. n / 4) kept.1 ∙ index.count;
  newest = λ p is. elim (cases_eq p (length keys)) [
    | inl same ↦
        let test = eq-eqb p (length keys) same in
        adds p ∙ (rw test refl) ∙ ap (λ k. Some (key_pair buckets k)) (sym (ap (λ n. get_or (keys ++ key ∷ []) n []) same ∙ at_last keys key))
    | inr other ↦
        let test = ne_eqb p (length keys) other in
        let before = before_newest keys key p is other in
        adds p ∙ (rw test refl) ∙ index.newest p before.0 ∙ ap (λ k. Some (key_pair buckets k)) (sym (at_before keys key p before.0.0))
  ];
  no_other = λ p (slot, held). elim (cases_eq p (length keys)) [
    | inl same ↦ subst (IsNewest (keys ++ key ∷ [])) (sym same) (newest_last keys key)
    | inr other ↦
        let before = held_before slots new (length keys) (first_bucket buckets key) (second_bucket buckets key) slot p kept.0 adds held other in
        newest_before keys key p (index.no_other p before) (no_key keys slots key p none before)
  ];
}
  where
    there : (first_bucket buckets key < bucket_count slots) × (second_bucket buckets key < bucket_count slots)
    there = key_there slots buckets keys key index

    is_new : ¬ HoldsPlace slots (length keys)
    is_new holds = let newest = index.no_other (length keys) holds in omega (arith, newest.0)

    kept : IsTable new × (length new ≡ length slots)
    kept = table_law slots new (first_bucket buckets key) (second_bucket buckets key) (length keys) index.table there.0 there.1 is_new e

    adds : AddsPair slots new (length keys) (first_bucket buckets key) (second_bucket buckets key)
    adds = pair_law slots new (first_bucket buckets key) (second_bucket buckets key) (length keys) index.table there.0 there.1 is_new e

-- a key that takes a new place
pub step_replaced : (slots : Slots) (buckets slot : ℕ) (keys : List (List ℕ)) (key : List ℕ) → Indexes slots buckets keys
    → slot_of_key keys slots key ≡ Some slot → Indexes (replaced slots slot (length keys)) buckets (keys ++ key ∷ [])
step_replaced slots buckets slot keys key index found = record {
  table = law.0;
  count = ap (λ n. n / 4) (length-set slots slot (Some (tag_at slots slot, length keys))) ∙ index.count;
  newest = λ p is. elim (cases_eq p (length keys)) [
    | inl same ↦
        let test = eq-eqb p (length keys) same in
        law.1 p ∙ (rw test refl) ∙ sym (table_pairs-held slots slot entry.0.1 index.table.places_apart held) ∙ index.newest entry.0.1 old_newest
        ∙ ap (λ k. Some (key_pair buckets k)) (entry.2 ∙ sym (ap (λ n. get_or (keys ++ key ∷ []) n []) same ∙ at_last keys key))
    | inr other ↦
        let test = ne_eqb p (length keys) other in
        let before = before_newest keys key p is other in
        elim (cases_Bool (has_place slots p slot)) [
          | inl passes ↦ absurd (before.1 (ap (λ n. get_or keys n []) (old_place p passes) ∙ entry.2))
          | inr fails ↦ law.1 p ∙ (rw (test, fails) refl) ∙ index.newest p before.0 ∙ ap (λ k. Some (key_pair buckets k)) (sym (at_before keys key p before.0.0))
        ]
  ];
  no_other = λ p (x, x_held). elim (cases_eq p (length keys)) [
    | inl same ↦ subst (IsNewest (keys ++ key ∷ [])) (sym same) (newest_last keys key)
    | inr other ↦
        let test = ne_eqb p (length keys) other in
        let pair = pair_held (replaced slots slot (length keys)) x p law.0 x_held in
        elim (cases_Bool (has_place slots p slot)) [
          | inl passes ↦ let gone = (rw (test, passes) at (law.1 p)) in absurd (cc)
          | inr fails ↦
              let kept = (rw (test, fails) at (law.1 p)) in
              let newest = index.no_other p (holds_from_pair slots p pair.0 (sym kept ∙ pair.1)) in
              newest_before keys key p newest (λ same. absurd (let is : p ≡ entry.0.1 = newest_apart keys p entry.0.1 newest old_newest (same ∙ sym entry.2) in
              let passes = is_has_place slots p slot (held ∙ ap Some (sym is)) in cc))
        ]
  ];
}
  where
    entry : (e : Entry) × (entry_at slots slot ≡ Some e) × (get_or keys e.1 [] ≡ key)
    entry = has_key_is keys slots key slot (found_in_range (is_entry_of keys slots key) 0 (length slots) slot found).2

    held : place_at slots slot ≡ Some entry.0.1
    held = ap (option_map (λ (e : Entry). e.1)) entry.1

    old_newest : IsNewest keys entry.0.1
    old_newest = index.no_other entry.0.1 (slot, held)

    old_place : (p : ℕ) → has_place slots p slot ≡ true → p ≡ entry.0.1
    old_place p passes = let both : Some entry.0.1 ≡ Some p = sym held ∙ has_place_is slots p slot passes in cc

    is_new : ¬ HoldsPlace slots (length keys)
    is_new holds = let newest = index.no_other (length keys) holds in omega (arith, newest.0)

    law : IsTable (replaced slots slot (length keys)) × TakesSlot slots (replaced slots slot (length keys)) slot (length keys)
    law = replace_law slots slot (length keys) index.table (rw entry.1 refl) is_new

-- a table with no place is that of no key
indexes_none : (buckets : ℕ) → IsBucketCount buckets → Indexes (empty_slots buckets) buckets []
indexes_none buckets count =
    let size : length (empty_slots buckets) ≡ 4 * buckets = length-replicate (4 * buckets) None in
    record {
      table = empty_table buckets count;
      count = omega arith;
      newest = λ place is. absurd (omega (arith, is.0));
      no_other = λ place (slot, is). absurd (omega (arith, empty_below buckets 0 slot place is));
    }

-- one key more
step : (buckets : ℕ) (i j : Index) (key : List ℕ) → Indexes i.slots buckets i.keys → added buckets i key ≡ Some j → Indexes j.slots buckets j.keys
unfolding added
step buckets i j key index e = elim (some_or_none (slot_of_key i.keys i.slots key)) [
  | inr (slot, found) ↦
      let is : record { keys = i.keys ++ key ∷ []; slots = replaced i.slots slot (length i.keys) } ≡ j = cc in
      rw (← is) (step_replaced i.slots buckets slot i.keys key index found)
  | inl none ↦ elim (some_or_none (placed i.slots (first_bucket buckets key) (second_bucket buckets key) (length i.keys))) [
    | inl full ↦ absurd (cc)
    | inr (new, is) ↦ let same : record { keys = i.keys ++ key ∷ []; slots = new } ≡ j = cc in rw (← same) (step_placed i.slots new buckets i.keys key index none is)
  ]
]

-- and many
steps : (buckets : ℕ) (keys : List (List ℕ)) (i j : Index) → Indexes i.slots buckets i.keys → fold (next_index buckets) (Some i) keys ≡ Some j → Indexes j.slots buckets j.keys
steps buckets [] i j index e = let same : i ≡ j = cc in rw (← same) index
steps buckets (key ∷ keys) i j index e = elim (some_or_none (added buckets i key)) [
  | inl none ↦ absurd (cc (stays_none buckets keys))
  | inr (k, is) ↦ steps buckets keys k j (step buckets i k key index is) (cc)
]

-- the table of some keys holds the newest place of each
pub index_law : IndexLaw
unfolding indexed
index_law buckets keys slots count e = elim (some_or_none (indexed buckets keys)) [
  | inl none ↦ absurd (cc)
  | inr (j, is) ↦
      let same : j.slots ≡ slots = cc in
      rw (← same, ← indexed_keys buckets keys j is) (steps buckets keys (record { keys = []; slots = empty_slots buckets }) j (indexes_none buckets count) is)
]
