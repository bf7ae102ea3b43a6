-- Lists made of the numbers of a range.
use Rattle.silt_sorted_store.proofs.Common.{◌≡◌, ℕ, zero, suc, ◌+◌, ◌<◌, ◌≤◌, List, [], ◌∷◌, ◌++◌, flat_map, slice_get, Some, refl, arith, cases_eq, nothing_both, nothing_first, nothing_second}
use Rattle.std.specs.List.{range_with_len}

-- the first of a list is the first of a longer one
first_of_front : {X : Type 0} (xs ys : List X) (x : X) → slice_get xs 0 ≡ Some x → slice_get (xs ++ ys) 0 ≡ Some x
first_of_front [] ys x first = absurd (cc)
first_of_front (y ∷ xs) ys x first = first

-- if the whole list is empty, each part is
pub none_of_each : {X : Type 0} (f : ℕ → List X) (from n : ℕ) → flat_map f (range_with_len from n) ≡ [] → (place : ℕ) → from ≤ place → place < from + n → f place ≡ []
none_of_each f from zero none place low high = absurd (omega arith)
none_of_each f from (suc n) none place low high = search (arith, none_of_each f (from + 1) n, cases_eq, nothing_first, nothing_second)

-- and the other way round
pub none_of_all : {X : Type 0} (f : ℕ → List X) (from n : ℕ) → ((place : ℕ) → from ≤ place → place < from + n → f place ≡ []) → flat_map f (range_with_len from n) ≡ []
none_of_all f from zero each = refl
none_of_all f from (suc n) each = search (arith, none_of_all f (from + 1) n, nothing_both)

-- the first that comes of them is that of the first number of which something comes
pub first_of_range : {X : Type 0} (f : ℕ → List X) (from n at : ℕ) (x : X) → from ≤ at → at < from + n
    → ((place : ℕ) → from ≤ place → place < at → f place ≡ []) → slice_get (f at) 0 ≡ Some x → slice_get (flat_map f (range_with_len from n)) 0 ≡ Some x
first_of_range f from zero at x low high before first = absurd (omega arith)
first_of_range f from (suc n) at x low high before first = search (arith, first_of_range f (from + 1) n, cases_eq, first_of_front)
