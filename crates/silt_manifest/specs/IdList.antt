-- The numbers of a list of ids, in an array with zeros after them.
use Rattle.std.proofs.Common.{◌≡◌, ℕ, ◌+◌, ◌-◌, ◌≤◌, List, ◌++◌, length, take, drop, replicate, get_or, sym, ◌∙◌, ap, arith}
use Rattle.std.proofs.Common.{take-append-drop, length-take-le, length-drop}
use Rattle.std.proofs.lemmas.List.{ext_get_or, get_or-drop, get_or-replicate, length-replicate}
use Rattle.silt_disk.specs.Layout.{most_hashes}

-- the room for numbers: as many as a device can have hash stores
abbrev pub id_room : ℕ
id_room = most_hashes

-- at most as many numbers as there is room for, and zeros in the places after them
pub record IsIdList (numbers : List ℕ) (count : ℕ) : Type 0 where
  pub most : count ≤ id_room
  pub room : length numbers ≡ id_room
  pub zeros : (k : ℕ) → count ≤ k → get_or numbers k 0 ≡ 0

-- the count is the number of the ids
pub count_back : (numbers : List ℕ) (count : ℕ) → IsIdList numbers count → length (take count numbers) ≡ count
count_back numbers count filled = length-take-le count numbers (omega arith)

-- the numbers with zeros after them are the whole array
pub numbers_back : (numbers : List ℕ) (count : ℕ) → IsIdList numbers count → take count numbers ++ replicate (id_room - length (take count numbers)) 0 ≡ numbers
numbers_back numbers count filled =
    let counted = count_back numbers count filled in
    let left = id_room - length (take count numbers) in
    let long : length {A = ℕ} (replicate left 0) ≡ left = length-replicate left 0 in
    let zeros : replicate left 0 ≡ drop count numbers =
    ext_get_or 0 (replicate left 0) (drop count numbers)
    (omega (arith, counted, long, length-drop count numbers))
    (λ place inside. get_or-replicate left place 0 0 (omega (arith, long)) ∙ sym (get_or-drop count numbers place 0 ∙ filled.zeros (count + place) (omega arith))) in
    ap (λ (rest : List ℕ). take count numbers ++ rest) zeros ∙ take-append-drop count numbers
