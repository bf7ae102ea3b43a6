-- The Elias gamma code of the numbers from 1 to 4,294,967,295.
use Rattle.std.specs.Prelude.{◌≡◌, ℕ, zero, suc, ◌+◌, ◌^◌, ◌<◌, ◌≤◌, nat_le, if◌then◌else◌, List, ◌++◌, replicate}
use Rattle.silt_gamma.specs.Bits.{low_bits}

-- a list of bits is the gamma code of n (Elias 1975): k zeros, and then n in the k + 1 bits that it needs
pub record IsGamma (n : ℕ) (bits : List ℕ) : Type 0 where
  pub zeros : ℕ
  pub at_least : 2 ^ zeros ≤ n
  pub below : n < 2 ^ (zeros + 1)
  pub code : bits ≡ replicate zeros 0 ++ low_bits (zeros + 1) n

-- the greatest exponent, at most k, of a power of two that is at most n
abbrev pub exponent_up_to : ℕ → ℕ → ℕ
exponent_up_to zero n = 0
exponent_up_to (suc k) n = if nat_le (2 ^ suc k) n then suc k else exponent_up_to k n

-- the gamma code of n
unfoldable pub gamma_code : ℕ → List ℕ
gamma_code n = replicate (exponent_up_to 31 n) 0 ++ low_bits (exponent_up_to 31 n + 1) n

-- the numbers that have a code
abbrev pub HasCode : ℕ → Type 0
HasCode n = (1 ≤ n) × (n < 2 ^ 32)

-- the bits begin with the code of n, and the rest follows
pub record BeginsWithCode (bits : List ℕ) (n : ℕ) (rest : List ℕ) : Type 0 where
  pub in_range : HasCode n
  pub split : bits ≡ gamma_code n ++ rest

-- the gamma code is the one that the standard defines, and no other list of bits is
abbrev pub GammaLaw : Type 0
GammaLaw = (n : ℕ) → HasCode n → IsGamma n (gamma_code n) × ((bits : List ℕ) → IsGamma n bits → bits ≡ gamma_code n)

-- no code is a prefix of another: bits that begin with two codes begin with the same code, and the rests are equal
abbrev pub PrefixLaw : Type 0
PrefixLaw = (bits : List ℕ) (m n : ℕ) (xs ys : List ℕ) → BeginsWithCode bits m xs → BeginsWithCode bits n ys → (m ≡ n) × (xs ≡ ys)
