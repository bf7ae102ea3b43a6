-- The first element of a list that passes a test.
use Rattle.silt_log_store.proofs.Common.{◌≡◌, ℕ, zero, suc, ◌<◌, Bool, true, false, cond, List, [], ◌∷◌, length, get_or, find, Some, None, refl, sym, subst, ap, ◌∙◌, arith, All, AllWithin}
use Rattle.silt_log_store.proofs.Common.{Contains, cond-true, cond-false, slice_get-get_or}

-- it is found if all before it fail
pub find_first : {X : Type 0} (p : X → Bool) (xs : List X) (k : ℕ) (x d : X) → AllWithin (λ y. p y ≡ false) xs 0 k → k < length xs → get_or xs k d ≡ x → p x ≡ true → find p xs ≡ Some x
find_first p [] k x d before low is passes = absurd (omega arith)
find_first p (y ∷ ys) zero x d before low is passes = cond-true (p y) (Some y) (find p ys) (ap p is ∙ passes) ∙ ap Some is
find_first p (y ∷ ys) (suc k) x d before low is passes =
    let fails : p y ≡ false = before 0 y (omega arith) (omega arith) in
    cond-false (p y) (Some y) (find p ys) fails ∙ find_first p ys k x d (λ j other least below. before (suc j) other (omega arith) (omega arith)) (omega arith) is passes

-- nothing is found if all fail
pub find_nothing : {X : Type 0} (p : X → Bool) (xs : List X) → AllWithin (λ y. p y ≡ false) xs 0 (length xs) → find p xs ≡ None
find_nothing p [] fail = refl
find_nothing p (y ∷ ys) fail =
    let here : p y ≡ false = fail 0 y (omega arith) (omega arith) in
    cond-false (p y) (Some y) (find p ys) here ∙ find_nothing p ys (λ j d least below. fail (suc j) d (omega arith) (omega arith))

-- what is found passes and is in the list
pub found_passes : {X : Type 0} (p : X → Bool) (xs : List X) (x : X) → find p xs ≡ Some x → (p x ≡ true) × Contains xs x
found_passes p [] x e = absurd (cc)
found_passes {X} p (y ∷ ys) x e = go (p y) refl (found_passes p ys x) e
  where
    go : (b : Bool) → p y ≡ b → (find p ys ≡ Some x → (p x ≡ true) × Contains ys x) → cond b (Some y) (find p ys) ≡ Some x → (p x ≡ true) × Contains (y ∷ ys) x
    go true is rest h = let same : y ≡ x = cc in (ap p (sym same) ∙ is, (0, omega arith, same))
    go false is rest h = let there = rest h in (there.0, (suc there.1.0, omega (arith, there.1.1), there.1.2))

-- what holds of all elements holds of one that is contained
pub all_contained : {X : Type 0} (P : X → Type 0) (xs : List X) (x : X) → All P xs → Contains xs x → P x
all_contained P xs x all (k, low, at) = subst P at (all k x low)

-- an element that is there does not depend on the default
pub same_default : {X : Type 0} (xs : List X) (k : ℕ) (a b : X) → k < length xs → get_or xs k a ≡ get_or xs k b
same_default xs k a b low = grind (arith, slice_get-get_or)
