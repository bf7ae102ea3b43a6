-- Whether a bucket has an entry with a tag.
use Rattle.silt_cuckoo.proofs.Common.{cases_Bool, ◌≡◌, ℕ, ◌+◌, ◌*◌, ◌≤◌, ◌<◌, ◌==◌, not, Bool, true, List, [], ◌∷◌, ◌++◌, length, get_or, Option, refl, ap, ◌∙◌, arith, append-nil, cons_option}
use Rattle.silt_cuckoo.proofs.Common.{Candidate, Slot, has_candidates, match_at, matches_in, unpacked, unpacked_all, Slots, entry_at, ◌||◌, slice_range, is_some, eqb-true, ne_eqb, has_tag}
use Rattle.silt_cuckoo.proofs.Search.{some_or_none}
use Rattle.std.proofs.lemmas.List.Edits.{get_or-between}
use Rattle.silt_cuckoo.specs.Lookup.{candidates_of}
use Rattle.silt_cuckoo.proofs.Unpacking.{entry_of_stored}

-- a list has an element
abbrev some_in : {X : Type 0} → List X → Bool
some_in xs = not (length xs == 0)

-- one that begins with an element has one
some_first : {X : Type 0} (x : X) (xs : List X) → some_in (x ∷ xs) ≡ true
some_first x xs = ap not (ne_eqb (length (x ∷ xs)) 0 (λ none. absurd (omega arith)))

-- one of two lists
some_of_both : {X : Type 0} (xs ys : List X) → some_in (xs ++ ys) ≡ (some_in xs || some_in ys)
some_of_both [] ys = refl
some_of_both (x ∷ xs) ys = cc (some_first x (xs ++ ys), some_first x xs)

-- a slot matches if it has the tag
match_is : (slots : Slots) (tag slot : ℕ) → is_some (match_at slots tag slot) ≡ has_tag tag (entry_at slots slot)
match_is slots tag slot = search (arith, some_or_none, cases_Bool)

-- one of four elements that may be there
four : {X : Type 0} (a b c d : Option X) → (((is_some a || is_some b) || is_some c) || is_some d) ≡ some_in (cons_option a (cons_option b (cons_option c (cons_option d []))))
four a b c d = search (arith, some_first)

-- a bucket has a match if one of its four slots has the tag
pub match_of_four : (slots : List Slot) (bucket tag : ℕ) (d : Slot) (zeroth first second third : Bool) → 4 * bucket + 4 ≤ length slots → let part = slice_range slots (4 * bucket) (4 * bucket + 4) in
    zeroth ≡ has_tag tag (unpacked (get_or part 0 d)) → first ≡ has_tag tag (unpacked (get_or part 1 d))
    → second ≡ has_tag tag (unpacked (get_or part 2 d)) → third ≡ has_tag tag (unpacked (get_or part 3 d))
    → (((zeroth || first) || second) || third) ≡ not (length (matches_in (unpacked_all slots) bucket tag) == 0)
match_of_four slots bucket tag d zeroth first second third there at_0 at_1 at_2 at_3 =
    let s : ℕ = 4 * bucket in
    rw (
      at_0 ∙ match_in 0 s (omega arith) (omega arith),
      at_1 ∙ match_in 1 (s + 1) (omega arith) (omega arith),
      at_2 ∙ match_in 2 (s + 1 + 1) (omega arith) (omega arith),
      at_3 ∙ match_in 3 (s + 1 + 1 + 1) (omega arith) (omega arith),
    ) (four (m s) (m (s + 1)) (m (s + 1 + 1)) (m (s + 1 + 1 + 1)))
  where
    m : ℕ → Option Candidate
    m = match_at (unpacked_all slots) tag

    match_in : (i slot : ℕ) → i < 4 → 4 * bucket + i ≡ slot → has_tag tag (unpacked (get_or (slice_range slots (4 * bucket) (4 * bucket + 4)) i d)) ≡ is_some (match_at (unpacked_all slots) tag slot)
    match_in i slot small is =
        cc (get_or-between slots (4 * bucket) (4 * bucket + 4) i d (omega arith), entry_of_stored slots (4 * bucket + i) d (omega arith), match_is (unpacked_all slots) tag slot)

-- two buckets have a candidate if one of them has a match
pub candidates_of_both : (slots : Slots) (first second : ℕ) (one two : Bool) → one ≡ some_in (matches_in slots first second)
    → two ≡ some_in (matches_in slots second first) → (one || two) ≡ has_candidates slots first second
unfolding candidates_of
candidates_of_both slots first second one two one_is two_is = search (arith, eqb-true, some_of_both, append-nil)
