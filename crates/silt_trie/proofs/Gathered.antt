-- Lemmas for callers that gather keys one by one.
use Rattle.silt_trie.proofs.Common.{◌≡◌, ℕ, ◌+◌, ◌-◌, ◌^◌, ◌<◌, List, [], ◌∷◌, ◌++◌, length, get_or, arith, cases_lt, get_or_append_left, get_or_push, length_push, Follows, IsCodable}

-- no keys can be coded
pub codable_none : (d : ℕ) → IsCodable [] d
codable_none d = record { few = omega arith; rising = λ i h. absurd (omega arith) }

-- and so can one key more that follows the last one
pub codable_push : (d : ℕ) (keys : List (List ℕ)) (key : List ℕ) → IsCodable keys d → length keys + 2 < 2 ^ 32
    → (0 < length keys → Follows d (get_or keys (length keys - 1) []) key) → IsCodable (keys ++ key ∷ []) d
codable_push d keys key codable few next =
    let count = length_push keys key in
    let n = length keys in
    let before : (i : ℕ) → i < n → get_or (keys ++ key ∷ []) i [] ≡ get_or keys i [] = λ i h. get_or_append_left keys (key ∷ []) [] i h in
    let last : (i : ℕ) → n ≡ i → get_or (keys ++ key ∷ []) i [] ≡ key = λ i e. get_or_push keys key [] i e in
    record { few = omega arith; rising = search (arith, cases_lt, codable.rising) }
