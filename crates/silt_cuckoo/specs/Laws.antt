-- Laws of the placing rule, for the crates above.
use Rattle.std.specs.Prelude.{◌≡◌, ◌<◌, ℕ, List, [], ◌∷◌, ◌++◌, length, IsSome, Some, option_map, option_and_then}
use Rattle.silt_cuckoo.specs.Slots.{Slots, bucket_count, IsTable, HoldsPlace, IsBucketCount, entry_at}
use Rattle.silt_cuckoo.specs.Placing.{placed, replaced}
use Rattle.silt_cuckoo.specs.Pairs.{AddsPair, TakesSlot}
use Rattle.silt_cuckoo.specs.Index.{Indexes, placed_or_replaced, slot_of_key, candidate_of_key, index_of_keys}
use Rattle.silt_cuckoo.specs.declared.lookup.Candidate.{Candidate}

-- placing a new place adds its pair, and changes no other
abbrev pub PairLaw : Type 0
PairLaw = (slots new : Slots) (first second place : ℕ) → IsTable slots → first < bucket_count slots → second < bucket_count slots → ¬ HoldsPlace slots place
    → placed slots first second place ≡ Some new → AddsPair slots new place first second

-- an entry that takes a new place keeps its pair
abbrev pub ReplaceLaw : Type 0
ReplaceLaw = (slots : Slots) (slot place : ℕ) → IsTable slots → IsSome (entry_at slots slot) → ¬ HoldsPlace slots place
    → IsTable (replaced slots slot place) × TakesSlot slots (replaced slots slot place) slot place

-- after a new place is placed, the table is still a table
abbrev pub TableLaw : Type 0
TableLaw = (slots new : Slots) (first second place : ℕ) → IsTable slots → first < bucket_count slots → second < bucket_count slots → ¬ HoldsPlace slots place
    → placed slots first second place ≡ Some new → IsTable new × (length new ≡ length slots)

-- a further key is placed in the table of the keys before it, or its old entry takes the new place
abbrev pub PushLaw : Type 0
PushLaw = (buckets : ℕ) (keys : List (List ℕ)) (key : List ℕ) → index_of_keys buckets (keys ++ key ∷ [])
    ≡ option_and_then (λ slots. placed_or_replaced buckets slots key (length keys) (slot_of_key keys slots key)) (index_of_keys buckets keys)

-- the table of some keys has the newest place of each key, and no other
abbrev pub IndexLaw : Type 0
IndexLaw = (buckets : ℕ) (keys : List (List ℕ)) (slots : Slots) → IsBucketCount buckets → index_of_keys buckets keys ≡ Some slots → Indexes slots buckets keys

-- the slot of a key in such a table is the slot of the candidate whose place belongs to the key
abbrev pub FindLaw : Type 0
FindLaw = (buckets : ℕ) (keys : List (List ℕ)) (slots : Slots) (key : List ℕ) → Indexes slots buckets keys
    → slot_of_key keys slots key ≡ option_map (λ (c : Candidate). c.slot) (candidate_of_key keys slots buckets key)
