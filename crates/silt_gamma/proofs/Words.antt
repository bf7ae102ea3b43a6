-- Lemmas on words of 64 bits that are read out of bytes.
use Rattle.std.proofs.Common.{◌≡◌, ℕ, ◌+◌, ◌-◌, ◌*◌, ◌/◌, ◌%◌, ◌^◌, ◌<◌, ◌≤◌, List, [], ◌∷◌, ◌++◌, length, take, drop, get_or, replicate, inl, inr, arith, length-append, length-drop}
use Rattle.std.specs.Int.RustNames.{bit_or}
use Rattle.std.proofs.lemmas.List.{append_assoc, take_at, drop_at, drop-drop, drop-append-le, take-append-le, drop_more, length-take-le, get_or-take, get_or_past, take-append-drop}
use Rattle.std.proofs.lemmas.Nat.{or_shifted, shr_below, be_bytes_8}
use Rattle.std.proofs.lemmas.Bool.{cases_lt}
use Rattle.std.specs.Int.{w64, from_be_bytes}
use Rattle.silt_gamma.specs.Bits.{low_bits, bits_of}
use Rattle.silt_gamma.proofs.BitLists.{length-low_bits, length-bits_of, low_bits_split, low_bits_joined, low_bits_mod, moved_word, drop-bits_of, bits_of-append, bits_of_to_be, bits_of-zeros}
use Rattle.silt_gamma.proofs.BitLists.{take_filled}

-- a word moved up by s bits, and the highest s bits of the byte after it
pub joined_window : (s t u word ninth : ℕ) (more : List ℕ) → t + s ≡ 64 → s + u ≡ 8 → ninth < 256
    → low_bits 64 (bit_or (word * 2 ^ s % 2 ^ 64) (ninth / 2 ^ u)) ≡ take 64 (drop s (low_bits 64 word ++ (low_bits 8 ninth ++ more)))
joined_window s t u word ninth more whole byte small =
    let turned : 64 ≡ s + t = omega arith in
    let low : ninth / 2 ^ u < 2 ^ s = shr_below ninth s u (rw byte small) in
    let left : low_bits 64 (bit_or (word * 2 ^ s % 2 ^ 64) (ninth / 2 ^ u)) ≡ low_bits t word ++ low_bits s (ninth / 2 ^ u) =
    cc (moved_word s t word, or_shifted (word % 2 ^ t) s (ninth / 2 ^ u) low, low_bits_joined t s (word % 2 ^ t) (ninth / 2 ^ u) low, low_bits_mod t word) in
    let high = low_bits s (word / 2 ^ t) in
    let middle = low_bits s (ninth / 2 ^ u) in
    let front = low_bits t word ++ middle in
    let rest = low_bits u ninth ++ more in
    let cut : low_bits 64 word ++ (low_bits 8 ninth ++ more) ≡ high ++ (front ++ rest) = cc (
      low_bits_split s t word,
      low_bits_split s u ninth,
      append_assoc high (low_bits t word) (middle ++ rest),
      append_assoc middle (low_bits u ninth) more,
      append_assoc (low_bits t word) middle rest,
    ) in
    search (arith, length-append, length-low_bits, drop_at, take_at)

-- the same bits, by their place in all the bytes
pub window_inside : (at q s : ℕ) (bytes : List ℕ) → at ≡ 8 * q + s → q + 9 ≤ length bytes → s < 8
    → take 64 (drop s (bits_of (drop q bytes))) ≡ take 64 (drop at (bits_of bytes ++ replicate 72 0))
window_inside at q s bytes place within small =
    let size = length-bits_of bytes in
    let left = length-drop at (bits_of bytes) in
    let whole = drop-bits_of q bytes (omega arith) in
    let unfilled = drop-append-le at (bits_of bytes) (replicate 72 0) (omega arith) in
    cc (drop-drop s (8 * q) (bits_of bytes), take-append-le 64 (drop at (bits_of bytes)) (replicate 72 0) (omega arith))

-- the same if the bytes end early and zeros fill up
pub window_padded : (at q s r : ℕ) (bytes : List ℕ) → at ≡ 8 * q + s → s < 8 → at ≤ 8 * length bytes → q + r ≡ length bytes → r < 9
    → take 64 (drop s (bits_of (drop q bytes ++ replicate (9 - r) 0))) ≡ take 64 (drop at (bits_of bytes ++ replicate 72 0))
window_padded at q s r bytes place small within sized short =
    let size = length-bits_of bytes in
    let spare = 8 * (9 - r) in
    let rest = length-bits_of (drop q bytes) in
    let fewer = length-drop q bytes in
    let left = length-drop at (bits_of bytes) in
    let split = bits_of-append (drop q bytes) (replicate (9 - r) 0) in
    let whole = drop-bits_of q bytes (omega arith) in
    let unfilled = drop-append-le at (bits_of bytes) (replicate 72 0) (omega arith) in
    let behind = drop-append-le s (bits_of (drop q bytes)) (replicate spare 0) (omega arith) in
    cc (bits_of-zeros (9 - r), drop-drop s (8 * q) (bits_of bytes), take_filled 64 spare 72 (drop at (bits_of bytes)) (omega arith) (omega arith))

-- the first eight bytes, one by one
first_eight : (bytes : List ℕ) → 9 ≤ length bytes
    → take 8 bytes ≡ get_or bytes 0 0 ∷ get_or bytes 1 0 ∷ get_or bytes 2 0 ∷ get_or bytes 3 0 ∷ get_or bytes 4 0 ∷ get_or bytes 5 0 ∷ get_or bytes 6 0 ∷ get_or bytes 7 0 ∷ []
first_eight bytes enough = search (arith, drop_more)

-- the bits of the bytes that one word and the byte after it are read from
pub front_window_is : (s word : ℕ) (bytes : List ℕ) → 9 ≤ length bytes → s < 8 → ((i : ℕ) → get_or bytes i 0 < 256)
    → word ≡ from_be_bytes w64 (get_or bytes 0 0 ∷ get_or bytes 1 0 ∷ get_or bytes 2 0 ∷ get_or bytes 3 0 ∷ get_or bytes 4 0 ∷ get_or bytes 5 0 ∷ get_or bytes 6 0 ∷ get_or bytes 7 0 ∷ [])
    → low_bits 64 (bit_or (word * 2 ^ s % 2 ^ 64) (get_or bytes 8 0 / 2 ^ (8 - s))) ≡ take 64 (drop s (bits_of bytes))
front_window_is s word bytes enough within small number =
    let few : length (take 8 bytes) ≡ 8 = length-take-le 8 bytes (omega arith) in
    let low : (i : ℕ) → get_or (take 8 bytes) i 0 < 256 = λ i. elim (cases_lt i 8) [
      | inl inside ↦ rw (get_or-take 8 bytes i 0 inside) (small i)
      | inr past ↦ rw (get_or_past (take 8 bytes) i 0 (omega arith)) (omega arith)
    ] in
    let eight = be_bytes_8 (take 8 bytes) word few low (cc (first_eight bytes enough)) in
    let joined = joined_window s (64 - s) (8 - s) word (get_or bytes 8 0) (bits_of (drop 9 bytes)) (omega arith) (omega arith) (small 8) in
    cc (bits_of_to_be word, take-append-drop 8 bytes, bits_of-append (take 8 bytes) (drop 8 bytes), drop_more bytes 8 0 (omega arith))
