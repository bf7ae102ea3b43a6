-- Shards with values of one length.
use Rattle.silt_shards.proofs.Common.{◌≡◌, ℕ, List, ◌∷◌, length, arith, rules, All, IsSet, value_len_of}

module _ {A : Type 0} (value_len : A → ℕ) where
  -- as many shards, whose values have the length that the values of the set had
  pub len_stays : (old new : List A) → length new ≡ length old → All (λ shard. value_len shard ≡ value_len_of value_len old) new
      → value_len_of value_len new ≡ value_len_of value_len old
  len_stays old (first ∷ new) same every = every 0 first (omega arith)
  len_stays old new same every = search rules

  pub set_stays : (old new : List A) → IsSet value_len old → length new ≡ length old → All (λ shard. value_len shard ≡ value_len_of value_len old) new → IsSet value_len new
  set_stays old new is_set same every = search (arith, len_stays)
