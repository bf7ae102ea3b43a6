-- Maps after commands.
use Rattle.silt_store_set.proofs.Common.{◌≡◌, List, [], ◌∷◌, ◌++◌, refl, ap, Command, Map, map_after, changed}

pub map_after-append : (m : Map) (some more : List Command) → map_after m (some ++ more) ≡ map_after (map_after m some) more
map_after-append m [] more = refl
map_after-append m (command ∷ some) more = map_after-append (changed m command) some more

pub append_nil : {A : Type 0} (xs : List A) → xs ++ [] ≡ xs
append_nil [] = refl
append_nil (x ∷ xs) = ap (λ ys. x ∷ ys) (append_nil xs)
