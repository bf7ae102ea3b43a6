-- The code of a trie. A key is the list of its bytes, and bit 0 is the highest bit of the first one.
use Rattle.std.specs.Prelude.{◌≡◌, ℕ, zero, suc, ◌+◌, ◌-◌, ◌^◌, ◌<◌, ◌==◌, List, [], ◌∷◌, ◌++◌, length, filter, slice_index, slice_index_or}
use Rattle.std.specs.Ordering.{nat_cmp}
use Rattle.std.specs.Cmp.Lexicographic.{slice_cmp}
use Rattle.std.specs.declared.cmp.Ordering.TheVariants.{Less}
use Rattle.silt_gamma.specs.Bits.{bits_of}
use Rattle.silt_gamma.specs.Gamma.{gamma_code}
use Rattle.silt_frame.specs.Frame.{key_len}

-- bit d of a key
abbrev pub bit_of : ℕ → List ℕ → ℕ
bit_of d key = slice_index (bits_of key) d

-- the keys with this bit at d
abbrev pub with_bit : ℕ → ℕ → List (List ℕ) → List (List ℕ)
with_bit bit d keys = filter (λ key. bit_of d key == bit) keys

-- The code of keys that agree in their first d bits and have `rest` further bits: empty for fewer than two keys, else the code of
-- how many have bit 0 at d, plus one, and then the codes of these keys and of the others at d + 1.
unfoldable pub code_within : ℕ → List (List ℕ) → ℕ → List ℕ
code_within zero keys d = []
code_within (suc rest) [] d = []
code_within (suc rest) (key ∷ []) d = []
code_within (suc rest) (first ∷ second ∷ more) d =
    let keys = first ∷ second ∷ more in
    let lefts = with_bit 0 d keys in
    let rights = with_bit 1 d keys in
    gamma_code (length lefts + 1) ++ code_within rest lefts (d + 1) ++ code_within rest rights (d + 1)

-- the code of keys of 20 bytes that agree in their first d bits
abbrev pub trie_code : List (List ℕ) → ℕ → List ℕ
trie_code keys d = code_within (160 - d) keys d

-- a key is less than another: it has 0 at the first bit that differs
abbrev pub IsBelow : List ℕ → List ℕ → Type 0
IsBelow a b = slice_cmp nat_cmp (bits_of a) (bits_of b) ≡ Less

-- two keys agree in their first d bits
abbrev pub AgreeIn : ℕ → List ℕ → List ℕ → Type 0
AgreeIn d a b = (k : ℕ) → k < d → bit_of k a ≡ bit_of k b

-- of two keys of 20 bytes the second is greater, and they agree in their first d bits
pub record Follows (d : ℕ) (a b : List ℕ) : Type 0 where
  pub sized : (length a ≡ key_len) × (length b ≡ key_len)
  pub below : IsBelow a b
  pub alike : AgreeIn d a b

-- keys rise strictly, agree in their first d bits, and are few enough for the code
pub record IsCodable (keys : List (List ℕ)) (d : ℕ) : Type 0 where
  pub few : length keys + 1 < 2 ^ 32
  pub rising : (i : ℕ) → i + 1 < length keys → Follows d (slice_index_or keys i []) (slice_index_or keys (i + 1) [])

-- a key is at this place
abbrev pub StandsAt : List (List ℕ) → ℕ → List ℕ → Type 0
StandsAt keys i key = (i < length keys) × (slice_index_or keys i [] ≡ key)

-- the order of keys by their bits is their order by bytes
abbrev pub OrderLaw : Type 0
OrderLaw =
    (a b : List ℕ) → ((i : ℕ) → slice_index a i < 256) → ((i : ℕ) → slice_index b i < 256)
    → slice_cmp nat_cmp (bits_of a) (bits_of b) ≡ slice_cmp nat_cmp a b

-- keys with the same first byte agree in their first 8 bits
abbrev pub GroupLaw : Type 0
GroupLaw = (a b : List ℕ) → slice_index a 0 ≡ slice_index b 0 → AgreeIn 8 a b
