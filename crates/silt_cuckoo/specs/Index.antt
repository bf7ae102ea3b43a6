-- The table of the keys of a log.
use Rattle.std.specs.Prelude.{◌≡◌, ◌≢◌, ◌<◌, ℕ, Bool, false, List, [], ◌∷◌, ◌++◌, length, find, fold, get_or, Option, Some, None, unwrap_or, option_map, option_and_then}
use Rattle.std.specs.List.{range_with_len}
use Rattle.std.specs.Str.{bytes_eq}
use Rattle.silt_cuckoo.specs.Slots.{Entry, Slots, IsTable, HoldsPlace, bucket_count, empty_slots, entry_at}
use Rattle.silt_cuckoo.specs.Keys.{first_bucket, second_bucket, key_pair}
use Rattle.silt_cuckoo.specs.Pairs.{table_pairs}
use Rattle.silt_cuckoo.specs.declared.lookup.Candidate.{Candidate}
use Rattle.silt_cuckoo.specs.Lookup.{candidates_of}
use Rattle.silt_cuckoo.specs.Placing.{placed, replaced}

-- the entry in this slot belongs to this key, if each place belongs to a key of the list
abbrev pub is_entry_of : List (List ℕ) → Slots → List ℕ → ℕ → Bool
is_entry_of keys slots key slot = unwrap_or (option_map (λ (e : Entry). bytes_eq (get_or keys e.1 []) key) (entry_at slots slot)) false

-- the slot whose entry belongs to this key
abbrev pub slot_of_key : List (List ℕ) → Slots → List ℕ → Option ℕ
slot_of_key keys slots key = find (is_entry_of keys slots key) (range_with_len 0 (length slots))

-- a key that is in the table already takes the new place, and another key is placed
abbrev pub placed_or_replaced : ℕ → Slots → List ℕ → ℕ → Option ℕ → Option Slots
placed_or_replaced buckets slots key place None = placed slots (first_bucket buckets key) (second_bucket buckets key) place
placed_or_replaced buckets slots key place (Some slot) = Some (replaced slots slot place)

-- the keys so far, each at its place, and their table
pub record Index : Type 0 where
  pub keys : List (List ℕ)
  pub slots : Slots

-- the index after one more key
unfoldable pub added : ℕ → Index → List ℕ → Option Index
added buckets index key = option_map
    (λ slots. record { keys = index.keys ++ key ∷ []; slots = slots })
    (placed_or_replaced buckets index.slots key (length index.keys) (slot_of_key index.keys index.slots key))

-- the keys added one after the other to an empty table; none if the rule finds no place for one of them
unfoldable pub indexed : ℕ → List (List ℕ) → Option Index
indexed buckets keys =
    fold (λ index key. option_and_then (λ i. added buckets i key) index) (Some (record { keys = []; slots = empty_slots buckets })) keys

-- the table of the keys of a log, the oldest first: the key of row i has place i
abbrev pub index_of_keys : ℕ → List (List ℕ) → Option Slots
index_of_keys buckets keys = option_map (λ index. index.slots) (indexed buckets keys)

-- the place belongs to a key of the list, and the key has no later place
abbrev pub IsNewest : List (List ℕ) → ℕ → Type 0
IsNewest keys place = (place < length keys) × ((later : ℕ) → place < later → later < length keys → get_or keys later [] ≢ get_or keys place [])

-- a table of this many buckets has the newest place of each key of the list, under the key's two buckets, and no other place
pub record Indexes (slots : Slots) (buckets : ℕ) (keys : List (List ℕ)) : Type 0 where
  pub table : IsTable slots
  pub count : bucket_count slots ≡ buckets
  pub newest : (place : ℕ) → IsNewest keys place → table_pairs slots place ≡ Some (key_pair buckets (get_or keys place []))
  pub no_other : (place : ℕ) → HoldsPlace slots place → IsNewest keys place

-- the first candidate of a key's two buckets whose place belongs to the key
abbrev pub candidate_of_key : List (List ℕ) → Slots → ℕ → List ℕ → Option Candidate
candidate_of_key keys slots buckets key =
    find (λ (c : Candidate). bytes_eq (get_or keys c.place []) key) (candidates_of slots (first_bucket buckets key) (second_bucket buckets key))
