-- The slot of a key is the slot of a candidate.
use Rattle.silt_cuckoo.proofs.Common.{cases_Bool, ◌≡◌, ℕ, inl, inr, Bool, true, false, List, [], ◌∷◌, length, find, get_or, Some, None, option_map, refl, sym, ap, ◌∙◌, arith, bytes_eq-Decides}
use Rattle.silt_cuckoo.proofs.Common.{Candidate, Slots, Entry, place_at, first_bucket, second_bucket, key_pair, candidates_of, places_of, bytes_eq, AllByRecursion, recursion_from_All, FindLaw}
use Rattle.silt_cuckoo.specs.Index.{is_entry_of, slot_of_key, candidate_of_key}
use Rattle.silt_cuckoo.proofs.Search.{found_in_range, none_in_range, some_or_none}
use Rattle.silt_cuckoo.proofs.Paths.{IsOn, entry_inside}
use Rattle.silt_cuckoo.proofs.Placed.{has_entry}
use Rattle.silt_cuckoo.proofs.Matching.{Stands, candidates_standing, pair_candidate}
use Rattle.silt_cuckoo.proofs.Indexing.{has_key_is, is_has_key, newest_apart}

-- what a search among candidates finds passes the test and is in its slot
found_candidate : (slots : Slots) (p : Candidate → Bool) (cs : List Candidate) (c : Candidate) → AllByRecursion (Stands slots) cs → find p cs ≡ Some c → (p c ≡ true) × Stands slots c
found_candidate slots p [] c stand e = absurd (cc)
found_candidate slots p (x ∷ cs) c stand e = search (arith, found_candidate slots p cs c stand.1, cases_Bool)

-- if nothing is found, the test fails at each place
none_found : (p : ℕ → Bool) (cs : List Candidate) (place : ℕ) → find (λ (c : Candidate). p c.place) cs ≡ None → IsOn place (places_of cs) → p place ≡ false
none_found p [] place e on = absurd on
none_found p (x ∷ cs) place e on = search (arith, none_found p cs place, cases_Bool)

-- the slot of a key is that of the first candidate with the key
pub find_law : FindLaw
find_law buckets keys slots key index = elim (some_or_none (slot_of_key keys slots key)) [
  | inl none ↦ elim (some_or_none (candidate_of_key keys slots buckets key)) [
    | inl not_found ↦ rw (none, not_found) refl
    | inr (c, found) ↦
        let it = found_is c found in
        let entry = has_entry slots c.slot c.place it.1 in
        let passes = is_has_key keys slots key c.slot entry.0 entry.1 (ap (λ n. get_or keys n []) entry.2 ∙ (bytes_eq-Decides (get_or keys c.place []) key).0 it.0) in
        let there = entry_inside slots c.slot entry.0 entry.1 in
        let fails = none_in_range (is_entry_of keys slots key) 0 (length slots) none c.slot (omega arith) (omega arith) in
        absurd (cc)
  ]
  | inr (slot, is) ↦
      let entry = has_key_is keys slots key slot (found_in_range (is_entry_of keys slots key) 0 (length slots) slot is).2 in
      let held : place_at slots slot ≡ Some entry.0.1 = ap (option_map (λ (e : Entry). e.1)) entry.1 in
      let newest = index.no_other entry.0.1 (slot, held) in
      elim (some_or_none (candidate_of_key keys slots buckets key)) [
        | inl not_found ↦
            let pair = index.newest entry.0.1 newest ∙ ap (λ k. Some (key_pair buckets k)) entry.2 in
            let on = pair_candidate slots (first_bucket buckets key) (second_bucket buckets key) entry.0.1 index.table.places_apart pair in
            let fails = none_found test (candidates_of slots (first_bucket buckets key) (second_bucket buckets key)) entry.0.1 not_found on in
            let passes : test entry.0.1 ≡ true = (bytes_eq-Decides (get_or keys entry.0.1 []) key).1 entry.2 in
            absurd (cc)
        | inr (c, found) ↦
            let it = found_is c found in
            let same = newest_apart keys entry.0.1 c.place newest (index.no_other c.place (c.slot, it.1)) (entry.2 ∙ sym ((bytes_eq-Decides (get_or keys c.place []) key).0 it.0)) in
            rw (is, found) (ap Some (index.table.places_apart slot c.slot c.place (held ∙ ap Some same) it.1))
      ]
]
  where
    test : ℕ → Bool
    test place = bytes_eq (get_or keys place []) key

    found_is : (c : Candidate) → candidate_of_key keys slots buckets key ≡ Some c → (test c.place ≡ true) × Stands slots c
    found_is c found =
        let cs = candidates_of slots (first_bucket buckets key) (second_bucket buckets key) in
        found_candidate slots (λ (c : Candidate). test c.place) cs c (recursion_from_All (Stands slots) cs (candidates_standing slots (first_bucket buckets key) (second_bucket buckets key))) found
