-- Lemmas on the bits of numbers and of bytes.
use Rattle.std.proofs.Common.{◌≡◌, ℕ, zero, suc, ◌+◌, ◌-◌, ◌*◌, ◌/◌, ◌%◌, ◌^◌, ◌<◌, ◌≤◌, List, [], ◌∷◌, ◌++◌, length, take, drop, replicate, refl, sym, ap, zero-add, add-zero, arith}
use Rattle.std.proofs.Common.{length-append}
use Rattle.std.proofs.lemmas.List.{take_at, drop_at, take-append-drop, length-take-le, replicate-append-replicate, take-replicate}
use Rattle.std.proofs.Math.Seq.{take-append-add}
use Rattle.std.specs.Int.{w64, byte_at, bytes_high_first, to_be_bytes}
use Rattle.std.proofs.lemmas.List.Concat.{flat_map-append}
use Rattle.std.proofs.lemmas.Nat.{shr-shr, shl-shr, shr_split, shr_high, mod-pow-add, pow-add, pow_pos}
use Rattle.std.proofs.Math.Nat.{pow-succ', pow-suc, div-one, mul-mod_left, mul-add-div_right, mul-add-mod_self_left, zero-div, div-eq_of_lt}
use Rattle.silt_gamma.specs.Bits.{low_bits, bits_of}

-- a number has as many bits as are asked for
pub length-low_bits : (w n : ℕ) → length (low_bits w n) ≡ w
length-low_bits zero n = refl
length-low_bits (suc w) n = ap suc (length-low_bits w n)

-- the highest a of a + b bits, and the others
pub low_bits_split : (a b n : ℕ) → low_bits (a + b) n ≡ low_bits a (n / 2 ^ b) ++ low_bits b n
low_bits_split zero b n = ap (λ (w : ℕ). low_bits w n) (zero-add b)
low_bits_split (suc a) b n =
    let e : suc a + b ≡ suc (b + a) = omega arith in
    search (arith, low_bits_split a b n, shr-shr)

-- a byte has eight bits
pub length-bits_of : (bytes : List ℕ) → length (bits_of bytes) ≡ 8 * length bytes
length-bits_of [] = refl
length-bits_of (b ∷ bytes) = omega (arith, length-bits_of bytes, length-append (low_bits 8 b) (bits_of bytes))

-- the bits of bytes that follow one another
pub bits_of-append : (xs ys : List ℕ) → bits_of (xs ++ ys) ≡ bits_of xs ++ bits_of ys
bits_of-append xs ys = flat_map-append (low_bits 8) xs ys

-- whole bytes left out are their bits left out
pub drop-bits_of : (k : ℕ) (bytes : List ℕ) → k ≤ length bytes → drop (8 * k) (bits_of bytes) ≡ bits_of (drop k bytes)
drop-bits_of k bytes within =
    let sized : length (bits_of (take k bytes)) ≡ 8 * k = rw (length-bits_of, length-take-le k bytes within) refl in
    cc (take-append-drop k bytes, bits_of-append (take k bytes) (drop k bytes), drop_at (bits_of (take k bytes)) (bits_of (drop k bytes)) (8 * k) sized)

-- bits above the lowest w do not matter
pub low_bits_above : (w h n : ℕ) → low_bits w (h * 2 ^ w + n) ≡ low_bits w n
low_bits_above zero h n = refl
low_bits_above (suc w) h n =
    let positive : 0 < 2 ^ w = pow_pos w in
    let outer : h * 2 ^ suc w + n ≡ (2 * h) * 2 ^ w + n = rw (pow-succ' 2 w) (grind arith) in
    cc (mul-add-div_right positive (2 * h) n, mul-add-mod_self_left 2 h (n / 2 ^ w), low_bits_above w (2 * h) n)

-- 0 has only zeros
pub low_bits-zero : (w : ℕ) → low_bits w 0 ≡ replicate w 0
low_bits-zero zero = refl
low_bits-zero (suc w) = cc (zero-div (2 ^ w), low_bits-zero w)

-- a number moved up by k bits has k zeros below
pub low_bits_moved : (w k n : ℕ) → low_bits (w + k) (n * 2 ^ k) ≡ low_bits w n ++ replicate k 0
low_bits_moved w k n = let e : n * 2 ^ k ≡ n * 2 ^ k + 0 = omega arith in cc (low_bits_split w k (n * 2 ^ k), shl-shr n k, low_bits_above k n 0, low_bits-zero k)

-- a number of w bits has zeros above
pub low_bits_small : (k w n : ℕ) → n < 2 ^ w → low_bits (k + w) n ≡ replicate k 0 ++ low_bits w n
low_bits_small k w n small = rw (low_bits_split, div-eq_of_lt small, low_bits-zero)

-- the lowest w bits are those of the remainder
pub low_bits_mod : (w n : ℕ) → low_bits w (n % 2 ^ w) ≡ low_bits w n
low_bits_mod w n = cc (low_bits_above w (n / 2 ^ w) (n % 2 ^ w), shr_split n w)

-- what a word of s + t bits holds after a move up by s
pub moved_word : (s t n : ℕ) → n * 2 ^ s % 2 ^ (t + s) ≡ (n % 2 ^ t) * 2 ^ s
moved_word s t n = cc (mod-pow-add (n * 2 ^ s) t s, shl-shr n s, mul-mod_left n (2 ^ s), add-zero ((n % 2 ^ t) * 2 ^ s))

-- bits that are joined: those of x above those of y
pub low_bits_joined : (t s x y : ℕ) → y < 2 ^ s → low_bits (t + s) (x * 2 ^ s + y) ≡ low_bits t x ++ low_bits s y
low_bits_joined t s x y small = rw (low_bits_split, shr_high x s y small, low_bits_above)

-- a byte's worth is that of eight bits
byte_power : (k : ℕ) → 256 ^ k ≡ 2 ^ (8 * k)
byte_power zero = refl
byte_power (suc k) =
    let eight : 8 * suc k ≡ 8 * k + 8 = omega arith in
    rw (eight, pow-add 2 (8 * k) 8, ← byte_power k) (pow-suc 256 k)

-- the bits of the bytes of a number
bits_of_high_first : (k n : ℕ) → bits_of (bytes_high_first k n) ≡ low_bits (8 * k) n
bits_of_high_first zero n = refl
bits_of_high_first (suc k) n =
    let eight : 8 * suc k ≡ 8 + 8 * k = omega arith in
    let worth : byte_at k n ≡ n / 2 ^ (8 * k) % 2 ^ 8 = cc (byte_at_is k n, byte_power k) in
    cc (bits_of_high_first k n, low_bits_mod 8 (n / 2 ^ (8 * k)), low_bits_split 8 (8 * k) n)
  where
    byte_at_is : (i m : ℕ) → byte_at i m ≡ m / 256 ^ i % 256
    byte_at_is zero m = ap (λ (x : ℕ). x % 256) (sym (div-one m))
    byte_at_is (suc i) m = refl

-- the bits of a word are those of its bytes, the highest first
pub bits_of_to_be : (n : ℕ) → bits_of (to_be_bytes w64 n) ≡ low_bits 64 n
bits_of_to_be n = bits_of_high_first 8 n

-- the first bytes have the first bits
pub bits_of-take : (k : ℕ) (bytes : List ℕ) → k ≤ length bytes → bits_of (take k bytes) ≡ take (8 * k) (bits_of bytes)
bits_of-take k bytes within =
    let sized : length (bits_of (take k bytes)) ≡ 8 * k = rw (length-bits_of, length-take-le k bytes within) refl in
    cc (take_at (bits_of (take k bytes)) (bits_of (drop k bytes)) (8 * k) sized, bits_of-append (take k bytes) (drop k bytes), take-append-drop k bytes)

-- bytes of 0 have only zeros
pub bits_of-zeros : (k : ℕ) → bits_of (replicate k 0) ≡ replicate (8 * k) 0
bits_of-zeros zero = refl
bits_of-zeros (suc k) = let eight : 8 + 8 * k ≡ 8 * suc k = omega arith in cc (bits_of-zeros k, replicate-append-replicate {A = ℕ} 8 (8 * k) 0)

-- a front that ends before the filling zeros
pub take_filled : (n a b : ℕ) (xs : List ℕ) → n ≤ length xs + a → n ≤ length xs + b → take n (xs ++ replicate a 0) ≡ take n (xs ++ replicate b 0)
take_filled zero a b xs p q = refl
take_filled (suc n) a b (x ∷ xs) p q = cc (take_filled n a b xs (omega arith) (omega arith))
take_filled (suc n) zero b [] p q = absurd (omega arith)
take_filled (suc n) (suc a) zero [] p q = absurd (omega arith)
take_filled (suc n) (suc a) (suc b) [] p q = cc (take_filled n a b [] (omega arith) (omega arith))

-- a front that ends within the filling zeros
pub take_into_zeros : (xs : List ℕ) (n a : ℕ) → length xs ≤ n → n ≤ length xs + a → take n (xs ++ replicate a 0) ≡ xs ++ replicate (n - length xs) 0
take_into_zeros xs n a low high =
    let e : n ≡ length xs + (n - length xs) = omega arith in
    cc (take-append-add xs (replicate a 0) (n - length xs), take-replicate {X = ℕ} (n - length xs) a 0 (omega arith))
