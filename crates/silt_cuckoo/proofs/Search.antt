-- The first that passes, among what a function makes of numbers in a row.
use Rattle.silt_cuckoo.proofs.Common.{◌≡◌, ℕ, zero, suc, ◌+◌, ◌<◌, ◌≤◌, Bool, true, false, find, Option, Some, None, refl, arith, inl, inr, ◌⊎◌, cases_eq, cases_Bool, range_with_len, filter_map}
use Rattle.silt_cuckoo.proofs.Common.{map, slice_get}

-- an option has no value or one
pub some_or_none : {X : Type 0} (o : Option X) → (o ≡ None) ⊎ ((x : X) × (o ≡ Some x))
some_or_none None = inl refl
some_or_none (Some x) = inr (x, refl)

-- the first that passes is found
pub found_at : {X : Type 0} (p : X → Bool) (f : ℕ → X) (a n k m : ℕ) → a + k ≡ m → k < n → ((j : ℕ) → a ≤ j → j < m → p (f j) ≡ false)
    → p (f m) ≡ true → find p (map f (range_with_len a n)) ≡ Some (f m)
found_at p f a zero k m e below before here = absurd (omega arith)
found_at p f a (suc n) zero m e below before here = let same : a ≡ m = omega arith in rw (same, here)
found_at p f a (suc n) (suc k) m e below before here = search (arith, found_at p f (a + 1) n k m)

-- nothing is found if none passes
pub found_nowhere : {X : Type 0} (p : X → Bool) (f : ℕ → X) (a n : ℕ) → ((j : ℕ) → a ≤ j → j < a + n → p (f j) ≡ false) → find p (map f (range_with_len a n)) ≡ None
found_nowhere p f a zero none = refl
found_nowhere p f a (suc n) none = search (arith, found_nowhere p f (a + 1) n)

-- the same if a function gives a value or none
pub first_at : {X : Type 0} (f : ℕ → Option X) (a n k m : ℕ) (x : X) → a + k ≡ m → k < n → ((j : ℕ) → a ≤ j → j < m → f j ≡ None)
    → f m ≡ Some x → slice_get (filter_map f (range_with_len a n)) 0 ≡ Some x
first_at f a zero k m x e below before here = absurd (omega arith)
first_at f a (suc n) zero m x e below before here = let same : a ≡ m = omega arith in rw (same, here)
first_at f a (suc n) (suc k) m x e below before here = search (arith, first_at f (a + 1) n k m x)

-- there is no first value if there is no value
pub first_nowhere : {X : Type 0} (f : ℕ → Option X) (a n : ℕ) → ((j : ℕ) → a ≤ j → j < a + n → f j ≡ None) → slice_get (filter_map f (range_with_len a n)) 0 ≡ None
first_nowhere f a zero none = refl
first_nowhere f a (suc n) none = search (arith, first_nowhere f (a + 1) n)

-- what is found passes, and is one of the numbers
pub found_in_range : (p : ℕ → Bool) (a n x : ℕ) → find p (range_with_len a n) ≡ Some x → (a ≤ x) × (x < a + n) × (p x ≡ true)
found_in_range p a zero x e = absurd (cc)
found_in_range p a (suc n) x e = search (arith, found_in_range p (a + 1) n x, cases_Bool)

-- if nothing is found, none of the numbers passes
pub none_in_range : (p : ℕ → Bool) (a n : ℕ) → find p (range_with_len a n) ≡ None → (x : ℕ) → a ≤ x → x < a + n → p x ≡ false
none_in_range p a zero e x low high = absurd (omega arith)
none_in_range p a (suc n) e x low high = search (arith, none_in_range p (a + 1) n, cases_Bool, cases_eq)

-- what is found among values made of numbers was made of one of them
pub found_among : {X : Type 0} (p : X → Bool) (f : ℕ → X) (a n : ℕ) (x : X) → find p (map f (range_with_len a n)) ≡ Some x → (k : ℕ) × (a ≤ k) × (k < a + n) × (f k ≡ x) × (p x ≡ true)
found_among p f a zero x e = absurd (cc)
found_among p f a (suc n) x e = search (arith, found_among p f (a + 1) n x, cases_Bool)

-- the first value that there is, of those that a function gives of numbers in a row
pub first_is : {X : Type 0} (f : ℕ → Option X) (a n : ℕ) (x : X) → slice_get (filter_map f (range_with_len a n)) 0 ≡ Some x
    → (m : ℕ) × (a ≤ m) × (f m ≡ Some x) × ((k : ℕ) → a ≤ k → k < m → f k ≡ None)
first_is f a zero x e = absurd (cc)
first_is f a (suc n) x e = search (arith, first_is f (a + 1) n x, some_or_none, cases_eq)
