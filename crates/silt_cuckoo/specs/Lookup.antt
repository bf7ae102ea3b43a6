-- The result of a look-up: the entries of two buckets.
use Rattle.std.specs.Prelude.{ℕ, ◌*◌, ◌==◌, Bool, not, length, if◌then◌else◌, List, [], ◌++◌, map, filter_map, Option, Some, None, option_and_then}
use Rattle.std.specs.List.{range_with_len}
use Rattle.silt_cuckoo.specs.declared.lookup.Candidate.{Candidate}
use Rattle.silt_cuckoo.specs.Slots.{Entry, Slots, entry_at}

-- the entry in this slot, if it has this tag
abbrev pub match_at : Slots → ℕ → ℕ → Option Candidate
match_at slots tag slot = option_and_then
    (λ (e : Entry). if e.0 == tag then Some (record { slot = slot; place = e.1 }) else None)
    (entry_at slots slot)

-- the entries of a bucket with this tag, in slot order
abbrev pub matches_in : Slots → ℕ → ℕ → List Candidate
matches_in slots bucket tag = filter_map (match_at slots tag) (range_with_len (4 * bucket) 4)

-- the entries of these two buckets: those in the first with the second as their tag, then those in the second with the first as their tag
unfoldable pub candidates_of : Slots → ℕ → ℕ → List Candidate
candidates_of slots first second =
    matches_in slots first second ++ (if first == second then [] else matches_in slots second first)

-- these two buckets have a candidate
abbrev pub has_candidates : Slots → ℕ → ℕ → Bool
has_candidates slots first second = not (length (candidates_of slots first second) == 0)

-- the places of candidates
abbrev pub places_of : List Candidate → List ℕ
places_of found = map (λ (c : Candidate). c.place) found
