-- The law of the entries of a table, for the crates above.
use Rattle.std.specs.Prelude.{◌≡◌, ℕ, ◌/◌, List, [], get_or, Some}
use Rattle.silt_cuckoo.specs.Slots.{Slots, IsBucketCount, entry_at, place_at}
use Rattle.silt_cuckoo.specs.Pairs.{pair_of}
use Rattle.silt_cuckoo.specs.Keys.{key_pair}
use Rattle.silt_cuckoo.specs.Index.{IsNewest, index_of_keys}

-- the slots of a table of some keys: each entry has the newest place of a key and lies under the key's two buckets, and each
-- newest place lies in one slot
pub record HasEntries (slots : Slots) (buckets : ℕ) (keys : List (List ℕ)) : Type 0 where
  pub newest : (slot tag place : ℕ) → entry_at slots slot ≡ Some (tag, place) → IsNewest keys place
  pub buckets_of : (slot tag place : ℕ) → entry_at slots slot ≡ Some (tag, place) → pair_of (slot / 4) tag ≡ key_pair buckets (get_or keys place [])
  pub held : (place : ℕ) → IsNewest keys place → (slot : ℕ) × (place_at slots slot ≡ Some place)
  pub once : (place slot other : ℕ) → place_at slots slot ≡ Some place → place_at slots other ≡ Some place → other ≡ slot

-- the table of some keys has such slots
abbrev pub TableEntryLaw : Type 0
TableEntryLaw = (buckets : ℕ) (keys : List (List ℕ)) (slots : Slots) → IsBucketCount buckets → index_of_keys buckets keys ≡ Some slots → HasEntries slots buckets keys
