-- Keys and coded tries as contracts see them.
use Rattle.std.specs.Prelude.{◌≡◌, ℕ, List, ◌++◌, length, map}
use Rattle.silt_frame.specs.declared.key.Key.{Key}
use Rattle.silt_trie.specs.Code.{IsCodable, StandsAt, trie_code}

-- the bytes of keys
abbrev pub bytes_of : List Key → List (List ℕ)
bytes_of keys = map (λ key. key.0) keys

-- more was appended to a list
abbrev pub Grows : {X : Type 0} → List X → List X → Type 0
Grows {X} old new = (more : List X) × (new ≡ old ++ more)

-- a coded trie: its code, the number of its keys, and the number of bits in which they agree
pub record Coded : Type 0 where
  pub code : List ℕ
  pub count : ℕ
  pub depth : ℕ

-- if bits begin with the code of so many keys, this is the place of a key that is one of them
abbrev pub IsPlaceIn : List ℕ → ℕ → ℕ → List ℕ → ℕ → Type 0
IsPlaceIn bits count depth key place =
    (keys : List (List ℕ)) (i : ℕ) (rest : List ℕ)
    → IsCodable keys depth → length keys ≡ count → bits ≡ trie_code keys depth ++ rest → StandsAt keys i key → place ≡ i

-- if bits begin with the code of so many keys, these are the bits after it
abbrev pub ArePast : List ℕ → ℕ → ℕ → List ℕ → Type 0
ArePast bits count depth after =
    (keys : List (List ℕ)) (rest : List ℕ)
    → IsCodable keys depth → length keys ≡ count → bits ≡ trie_code keys depth ++ rest → after ≡ rest
