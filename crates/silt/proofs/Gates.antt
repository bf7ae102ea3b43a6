-- A list that grows as a map of it does.
use Rattle.std.proofs.Common.{◌≡◌, ◌∙◌, List, [], ◌∷◌, ◌++◌, ap, ap₂, map, sym}
use Rattle.std.proofs.lemmas.List.{map_push}

module _ {X Y : Type 0} (f : X → Y) where
  -- one more item maps to one more value
  pub one_more : (grown xs : List X) (x : X) (whole ys : List Y) (y : Y) → grown ≡ xs ++ x ∷ [] → map f xs ≡ ys → f x ≡ y → whole ≡ ys ++ y ∷ [] → map f grown ≡ whole
  one_more grown xs x whole ys y items so_far is all = ap (map f) items ∙ map_push f xs x ∙ ap₂ (λ (l : List Y) (z : Y). l ++ z ∷ []) so_far is ∙ sym all
