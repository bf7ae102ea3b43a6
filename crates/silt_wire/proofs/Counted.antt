-- Names beside numbers.
use Rattle.silt_wire.proofs.Common.{◌≡◌, Bor, List, [], ◌∷◌, ap, map, refl, ℕ, zip}

-- the text of each name beside its number
pub rows-zip : (names : List (Bor (List ℕ))) (numbers : List ℕ)
    → map (λ (row : Bor (List ℕ) × ℕ). (row.0.now, row.1)) (zip names numbers) ≡ zip (map (λ name. name.now) names) numbers
rows-zip [] numbers = refl
rows-zip (name ∷ names) [] = refl
rows-zip (name ∷ names) (number ∷ numbers) = ap (λ rows. (name.now, number) ∷ rows) (rows-zip names numbers)
