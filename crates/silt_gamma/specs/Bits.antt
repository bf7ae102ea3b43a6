-- Bits, each 0 or 1, and the bytes that they fill from the highest bit of the first byte on.
use Rattle.std.specs.Prelude.{◌≡◌, ℕ, zero, suc, ◌-◌, ◌*◌, ◌/◌, ◌%◌, ◌^◌, ◌<◌, ◌≤◌, List, [], ◌∷◌, ◌++◌, length, take, drop, replicate}
use Rattle.std.specs.List.{flat_map}

-- the lowest w bits of n, the highest first
abbrev pub low_bits : ℕ → ℕ → List ℕ
low_bits zero n = []
low_bits (suc w) n = n / 2 ^ w % 2 ∷ low_bits w n

-- the bits of some bytes
abbrev pub bits_of : List ℕ → List ℕ
bits_of bytes = flat_map (low_bits 8) bytes

-- the first n bits of some bytes
abbrev pub first_bits : ℕ → List ℕ → List ℕ
first_bits n bytes = take n (bits_of bytes)

-- the highest w bits of a word of 64 bits
abbrev pub high_bits : ℕ → ℕ → List ℕ
high_bits w word = low_bits w (word / 2 ^ (64 - w))

-- the bytes hold exactly these bits: zeros fill up the last byte, and no byte follows
pub record HoldsBits (bytes bits : List ℕ) : Type 0 where
  pub spare : ℕ
  pub short : spare < 8
  pub code : bits_of bytes ≡ bits ++ replicate spare 0

-- the bytes hold exactly their first n bits
pub record IsFilledTo (n : ℕ) (bytes : List ℕ) : Type 0 where
  pub filled : HoldsBits bytes (first_bits n bytes)
  pub within : n ≤ 8 * length bytes

-- a place and an end within some bytes, and a word whose first `ready` bits are those from that place on
pub record IsWindow (bytes : List ℕ) (at end window ready : ℕ) : Type 0 where
  pub ordered : at ≤ end
  pub inside : end ≤ 8 * length bytes
  pub small : window < 2 ^ 64
  pub upto : ready ≤ 64
  pub word : high_bits ready window ≡ take ready (drop at (bits_of bytes ++ replicate 72 0))
