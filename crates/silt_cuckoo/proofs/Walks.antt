-- Laws of walks.
use Rattle.silt_cuckoo.proofs.Common.{◌≡◌, ℕ, zero, suc, ◌+◌, ◌<◌, ◌≤◌, List, [], ◌∷◌, ◌++◌, Some, None, option_map, refl, sym, ap, ◌∙◌, arith, ◌-◌, inl, inr, cases_lt, Slots, tag_at, ended_walk}
use Rattle.silt_cuckoo.proofs.Common.{bucket_after, victim, free_slot}
use Rattle.silt_cuckoo.specs.Placing.{turns, shortest_walk}
use Rattle.silt_cuckoo.proofs.Search.{first_at, first_nowhere}

-- one more turn
pub turns_next : (slots : Slots) (bucket n : ℕ) (path : List ℕ) → turns slots bucket n ≡ Some path
    → turns slots bucket (n + 1) ≡ option_map (λ slot. path ++ slot ∷ []) (victim slots path (bucket_after slots bucket path) n)
unfolding turns
turns_next slots bucket n path e = let s : n + 1 ≡ suc n = omega arith in rw (s, e)

-- no turn comes after one without a victim
pub turns_none : (slots : Slots) (bucket n k : ℕ) → turns slots bucket n ≡ None → turns slots bucket (n + k) ≡ None
unfolding turns
turns_none slots bucket n zero e = let s : n + 0 ≡ n = omega arith in rw (s, e) refl
turns_none slots bucket n (suc k) e = let s : n + suc k ≡ suc (n + k) = omega arith in let rest = turns_none slots bucket n k e in rw (s, rest) refl

-- the bucket after one more slot
pub bucket_after_push : (slots : Slots) (bucket : ℕ) (path : List ℕ) (slot : ℕ) → bucket_after slots bucket (path ++ slot ∷ []) ≡ tag_at slots slot
bucket_after_push slots bucket [] slot = refl
bucket_after_push slots bucket (x ∷ path) slot = bucket_after_push slots (tag_at slots x) path slot

-- a turn whose bucket has no free slot ends nothing
pub not_ended : (slots : Slots) (bucket n : ℕ) (path : List ℕ) → turns slots bucket n ≡ Some path → free_slot slots (bucket_after slots bucket path) ≡ None → ended_walk slots bucket n ≡ None
not_ended slots bucket n path e none = rw (e, none) refl

-- a turn whose bucket has a free slot ends the walk there
pub ended : (slots : Slots) (bucket n free : ℕ) (path : List ℕ) → turns slots bucket n ≡ Some path
    → free_slot slots (bucket_after slots bucket path) ≡ Some free → ended_walk slots bucket n ≡ Some (path ++ free ∷ [])
ended slots bucket n free path e some = rw (e, some) refl

-- the first walk that ends is the shortest
pub shortest_at : (slots : Slots) (bucket n : ℕ) (path : List ℕ) → n < 128 → ((k : ℕ) → 1 ≤ k → k < n + 1 → ended_walk slots bucket k ≡ None)
    → ended_walk slots bucket (n + 1) ≡ Some path → shortest_walk slots bucket ≡ Some path
unfolding shortest_walk
shortest_at slots bucket n path below before here = first_at (ended_walk slots bucket) 1 128 n (n + 1) path (omega arith) below before here

-- none ends if a turn finds no entry to move
pub shortest_none : (slots : Slots) (bucket n : ℕ) → ((k : ℕ) → 1 ≤ k → k < n + 1 → ended_walk slots bucket k ≡ None) → turns slots bucket (n + 1) ≡ None → shortest_walk slots bucket ≡ None
unfolding shortest_walk
shortest_none slots bucket n before stuck = first_nowhere (ended_walk slots bucket) 1 128 (λ k low high. elim (cases_lt k (n + 1)) [
  | inl early ↦ before k low early
  | inr late ↦
      let none = turns_none slots bucket (n + 1) (k - (n + 1)) stuck in
      search arith
])

-- nor if 128 turns have ended nothing
pub shortest_never : (slots : Slots) (bucket : ℕ) → ((k : ℕ) → 1 ≤ k → k < 129 → ended_walk slots bucket k ≡ None) → shortest_walk slots bucket ≡ None
unfolding shortest_walk
shortest_never slots bucket before = first_nowhere (ended_walk slots bucket) 1 128 (λ k low high. before k low (omega arith))

-- a turn made: the path has one slot more, and the bucket is that of its tag
pub turn_made : (slots : Slots) (first bucket turn slot : ℕ) (path : List ℕ) → turns slots first turn ≡ Some path → bucket ≡ bucket_after slots first path
    → victim slots path bucket turn ≡ Some slot
    → (turns slots first (turn + 1) ≡ Some (path ++ slot ∷ [])) × (tag_at slots slot ≡ bucket_after slots first (path ++ slot ∷ []))
turn_made slots first bucket turn slot path so_far here found =
    let victim_here : victim slots path (bucket_after slots first path) turn ≡ Some slot = rw here at found in
    (turns_next slots first turn path so_far ∙ ap (option_map (λ s. path ++ s ∷ [])) victim_here, sym (bucket_after_push slots first path slot))

-- no walk of so few turns ends
abbrev pub NotEnded : Slots → ℕ → ℕ → Type 0
NotEnded slots first turn = (n : ℕ) → 1 ≤ n → n < turn + 1 → ended_walk slots first n ≡ None

-- a turn that finds no entry to move: the walk fails
pub walk_stuck : (slots : Slots) (first bucket turn : ℕ) (path : List ℕ) → turns slots first turn ≡ Some path → bucket ≡ bucket_after slots first path
    → NotEnded slots first turn → victim slots path bucket turn ≡ None → shortest_walk slots first ≡ None
walk_stuck slots first bucket turn path so_far here none stuck =
    let stuck_here : victim slots path (bucket_after slots first path) turn ≡ None = rw here at stuck in
    shortest_none slots first turn none (turns_next slots first turn path so_far ∙ ap (option_map (λ s. path ++ s ∷ [])) stuck_here)

-- a turn that reaches a bucket with a free slot: the walk ends there
pub walk_ends : (slots : Slots) (first bucket turn slot free : ℕ) (path : List ℕ) → turn < 128 → turns slots first turn ≡ Some path → bucket ≡ bucket_after slots first path
    → NotEnded slots first turn → victim slots path bucket turn ≡ Some slot → free_slot slots (tag_at slots slot) ≡ Some free
    → shortest_walk slots first ≡ Some ((path ++ slot ∷ []) ++ free ∷ [])
walk_ends slots first bucket turn slot free path low so_far here none found there =
    let made = turn_made slots first bucket turn slot path so_far here found in
    let free_here : free_slot slots (bucket_after slots first (path ++ slot ∷ [])) ≡ Some free = rw made.1 at there in
    shortest_at slots first turn _ low none (ended slots first (turn + 1) free (path ++ slot ∷ []) made.0 free_here)

-- a turn that reaches a full bucket: no walk has ended yet
pub walk_goes_on : (slots : Slots) (first bucket turn slot : ℕ) (path : List ℕ) → turns slots first turn ≡ Some path → bucket ≡ bucket_after slots first path
    → NotEnded slots first turn → victim slots path bucket turn ≡ Some slot → free_slot slots (tag_at slots slot) ≡ None → NotEnded slots first (turn + 1)
walk_goes_on slots first bucket turn slot path so_far here none found full n low high =
    let made = turn_made slots first bucket turn slot path so_far here found in
    search (arith, not_ended, cases_lt)
