-- Lemmas on the bits of keys.
use Rattle.silt_trie.proofs.Common.{◌≡◌, ℕ, zero, suc, ◌+◌, ◌-◌, ◌*◌, ◌/◌, ◌%◌, ◌^◌, ◌<◌, List, [], ◌∷◌, length, get_or, ap, inl, inr, arith, get_or_append_left, get_or-append-add, cases_lt}
use Rattle.silt_trie.proofs.Common.{mod_below, low_bits, bits_of, bit_of, bit_and}
use Rattle.silt_gamma.proofs.BitLists.{length-low_bits}
use Rattle.std.proofs.lemmas.Nat.Bits.{shr_and_one}

-- a bit of a number
low_bits_at : (w r n : ℕ) → r < w → get_or (low_bits w n) r 0 ≡ n / 2 ^ (w - 1 - r) % 2
low_bits_at zero r n within = absurd (omega arith)
low_bits_at (suc w) zero n within = let e : w ≡ suc w - 1 - 0 = omega arith in ap (λ (x : ℕ). n / 2 ^ x % 2) e
low_bits_at (suc w) (suc r) n within = search (arith, low_bits_at w r n)

-- a bit of some bytes
bits_of_at : (q r : ℕ) (bytes : List ℕ) → q < length bytes → r < 8 → get_or (bits_of bytes) (8 * q + r) 0 ≡ get_or bytes q 0 / 2 ^ (7 - r) % 2
bits_of_at q r [] within small = absurd (omega arith)
bits_of_at zero r (b ∷ bytes) within small = search (arith, get_or_append_left, length-low_bits, low_bits_at)
bits_of_at (suc q) r (b ∷ bytes) within small = search (arith, bits_of_at q r bytes, get_or-append-add)

-- the bit that a shift and a mask give
pub key_bit_is : (d : ℕ) (bytes : List ℕ) → d < 8 * length bytes → bit_and (get_or bytes (d / 8) 0 / 2 ^ (7 - d % 8)) 1 ≡ bit_of d bytes
key_bit_is d bytes within = search (arith, shr_and_one, bits_of_at)

-- a bit is 0 or 1
low_bits_small : (w r n : ℕ) → get_or (low_bits w n) r 0 < 2
low_bits_small zero r n = omega arith
low_bits_small (suc w) zero n = mod_below (n / 2 ^ w) 2 (omega arith)
low_bits_small (suc w) (suc r) n = low_bits_small w r n

-- a bit of a key is 0 or 1
pub bit_small : (d : ℕ) (bytes : List ℕ) → bit_of d bytes < 2
bit_small d [] = omega arith
bit_small d (b ∷ bytes) = elim (cases_lt d 8) [
  | inl inside ↦ rw (get_or_append_left (low_bits 8 b) (bits_of bytes) 0 d (omega (arith, length-low_bits 8 b))) (low_bits_small 8 d b)
  | inr past ↦
      search (arith, bit_small (d - 8) bytes, get_or-append-add)
]
