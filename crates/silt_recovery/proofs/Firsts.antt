-- The first of several findings.
use Rattle.silt_recovery.proofs.Common.{◌≡◌, List, [], ◌∷◌, ◌++◌, Some, slice_get}

-- the first of a list is the first of a longer one
pub first_of_front : {X : Type 0} (xs ys : List X) (x : X) → slice_get xs 0 ≡ Some x → slice_get (xs ++ ys) 0 ≡ Some x
first_of_front [] ys x e = absurd (cc)
first_of_front (y ∷ xs) ys x e = e
