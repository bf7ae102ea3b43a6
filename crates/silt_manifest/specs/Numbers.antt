-- Lists of numbers as bytes, big-endian.
use Rattle.std.specs.Prelude.{ℕ, ◌+◌, ◌-◌, ◌*◌, List, [], ◌∷◌, ◌++◌, length, map, replicate}
use Rattle.std.specs.List.{range_with_len}
use Rattle.byteorder.specs.Endian.{big_bytes}
use Rattle.silt_disk.specs.Numbers.{number_at}

-- numbers of four bytes each, one after the other
abbrev pub id_bytes : List ℕ → List ℕ
id_bytes [] = []
id_bytes (id ∷ ids) = big_bytes 4 id ++ id_bytes ids

-- the count, and then room for this many numbers, with zeros if there are fewer
abbrev pub ids_bytes : ℕ → List ℕ → List ℕ
ids_bytes room ids = big_bytes 4 (length ids) ++ id_bytes ids ++ replicate (4 * (room - length ids)) 0

-- as many numbers as the count at place i gives, from the four bytes after it on
abbrev pub ids_at : ℕ → List ℕ → List ℕ
ids_at i bytes = map (λ k. number_at 4 (i + 4 + 4 * k) bytes) (range_with_len 0 (number_at 4 i bytes))
