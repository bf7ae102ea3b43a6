-- Laws of the gamma code.
use Rattle.std.proofs.Common.{◌≡◌, ℕ, zero, suc, ◌+◌, ◌/◌, ◌%◌, ◌^◌, ◌<◌, ◌≤◌, inl, inr, List, ◌∷◌, ◌++◌, replicate, refl, sym, ap, ◌∙◌, arith}
use Rattle.std.proofs.Math.Pow.{pow_mono, pow_pos}
use Rattle.std.proofs.lemmas.Bool.{leb-true, leb-false, cases_order}
use Rattle.std.proofs.lemmas.List.{append_assoc}
use Rattle.std.proofs.lemmas.Nat.{le-div, mod-pow-add, shr_below, shr_split}
use Rattle.silt_gamma.specs.Gamma.{exponent_up_to, gamma_code, HasCode, GammaLaw, PrefixLaw}
use Rattle.silt_gamma.specs.Bits.{low_bits}

-- the exponent is that of the greatest power of two up to n
pub exponent_fits : (k n : ℕ) → 1 ≤ n → n < 2 ^ (k + 1) → (2 ^ exponent_up_to k n ≤ n) × (n < 2 ^ (exponent_up_to k n + 1))
exponent_fits zero n low high = (omega arith, omega arith)
exponent_fits (suc k) n low high = search (arith, exponent_fits k n low, leb-true, leb-false)

-- the exponent is at most the limit
pub exponent_least : (k n : ℕ) → exponent_up_to k n ≤ k
exponent_least zero n = omega arith
exponent_least (suc k) n = search (arith, exponent_least k n)

-- one exponent fits
pub one_exponent : (j k n : ℕ) → 2 ^ j ≤ n → n < 2 ^ (j + 1) → 2 ^ k ≤ n → n < 2 ^ (k + 1) → j ≡ k
one_exponent j k n a b c d = elim (cases_order j k) [
  | inl same ↦ same
  | inr (inl below) ↦ let h : 2 ^ (j + 1) ≤ 2 ^ k = pow_mono {i = j + 1} {j = k} (omega arith) in absurd (omega arith)
  | inr (inr above) ↦ let h : 2 ^ (k + 1) ≤ 2 ^ j = pow_mono {i = k + 1} {j = j} (omega arith) in absurd (omega arith)
]

-- the code is the one that the standard defines
pub gamma_law : GammaLaw
unfolding gamma_code
gamma_law n within =
    let fits = exponent_fits 31 n within.0 within.1 in (
      record { zeros = exponent_up_to 31 n; at_least = fits.0; below = fits.1; code = refl },
      λ bits is.
          let same = one_exponent is.zeros (exponent_up_to 31 n) n is.at_least is.below fits.0 fits.1 in
          rw same at is.code,
    )

-- the highest bit of a code's number is 1
top_bit : (k n : ℕ) → 2 ^ k ≤ n → n < 2 ^ (k + 1) → n / 2 ^ k ≡ 1
top_bit k n low high =
    let next : k + 1 ≡ 1 + k = omega arith in
    let most : n / 2 ^ k < 2 = shr_below n 1 k (rw next at high) in
    search (arith, le-div, pow_pos)

-- zeros up to the first one
zeros_same : (a b : ℕ) (us vs : List ℕ) → replicate a 0 ++ 1 ∷ us ≡ replicate b 0 ++ 1 ∷ vs → (a ≡ b) × (us ≡ vs)
zeros_same zero zero us vs e = (refl, cc)
zeros_same zero (suc b) us vs e = absurd (cc)
zeros_same (suc a) zero us vs e = absurd (cc)
zeros_same (suc a) (suc b) us vs e = let h : replicate a 0 ++ 1 ∷ us ≡ replicate b 0 ++ 1 ∷ vs = cc in let both = zeros_same a b us vs h in (ap suc both.0, both.1)

-- the same bits, as many, are the same number
pub low_bits_same : (w m n : ℕ) (xs ys : List ℕ) → low_bits w m ++ xs ≡ low_bits w n ++ ys → (m % 2 ^ w ≡ n % 2 ^ w) × (xs ≡ ys)
low_bits_same zero m n xs ys e = (omega arith, e)
low_bits_same (suc w) m n xs ys e =
    let head : m / 2 ^ w % 2 ≡ n / 2 ^ w % 2 = cc in
    let rest = low_bits_same w m n xs ys (cc) in
    let next : suc w ≡ 1 + w = omega arith in
    (rw next (cc (mod-pow-add m 1 w, mod-pow-add n 1 w, rest.0)), rest.1)

-- the code with its first one
front : (k n : ℕ) (xs : List ℕ) → 2 ^ k ≤ n → n < 2 ^ (k + 1) → (replicate k 0 ++ low_bits (suc k) n) ++ xs ≡ replicate k 0 ++ 1 ∷ (low_bits k n ++ xs)
front k n xs low high = append_assoc (replicate k 0) (low_bits (suc k) n) xs ∙ ap (λ (b : ℕ). replicate k 0 ++ b ∷ (low_bits k n ++ xs)) (ap (λ (q : ℕ). q % 2) (top_bit k n low high))

-- two codes that begin alike, with their exponents
prefix_from : (a b m n : ℕ) (xs ys : List ℕ) → 2 ^ a ≤ m → m < 2 ^ (a + 1) → 2 ^ b ≤ n → n < 2 ^ (b + 1)
    → (replicate a 0 ++ low_bits (suc a) m) ++ xs ≡ (replicate b 0 ++ low_bits (suc b) n) ++ ys → (m ≡ n) × (xs ≡ ys)
prefix_from a b m n xs ys ma mb na nb e =
    let both = zeros_same a b (low_bits a m ++ xs) (low_bits b n ++ ys) (sym (front a m xs ma mb) ∙ e ∙ front b n ys na nb) in
    search (arith, low_bits_same, top_bit, shr_split)

-- the law, for two codes and what follows them
pub codes_apart : (m n : ℕ) (xs ys : List ℕ) → HasCode m → HasCode n → gamma_code m ++ xs ≡ gamma_code n ++ ys → (m ≡ n) × (xs ≡ ys)
unfolding gamma_code
codes_apart m n xs ys inm inn e =
    let fm = exponent_fits 31 m inm.0 inm.1 in
    let fn = exponent_fits 31 n inn.0 inn.1 in
    let a : exponent_up_to 31 m + 1 ≡ suc (exponent_up_to 31 m) = omega arith in
    let b : exponent_up_to 31 n + 1 ≡ suc (exponent_up_to 31 n) = omega arith in
    search (arith, prefix_from)

-- no code is a prefix of another
pub prefix_law : PrefixLaw
prefix_law bits m n xs ys one other = codes_apart m n xs ys one.in_range other.in_range (sym one.split ∙ other.split)
