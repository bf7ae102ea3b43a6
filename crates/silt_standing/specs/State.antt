-- The stores of a device as they are held in memory.
use Rattle.std.specs.Prelude.{◌≡◌, ◌≢◌, ◌≤◌, ◌<◌, ◌-◌, ◌*◌, ◌==◌, ℕ, Bool, false, List, All, length, map, get_or, Option, IfSome}
use Rattle.std.specs.List.{list_any}
use Rattle.silt_disk.specs.Layout.{Shape, most_frozen, most_hashes}
use Rattle.silt_conversion.specs.Conversion.{ConversionState}
use Rattle.silt_hash_store.specs.State.{HashState, IsHeldHash}
use Rattle.silt_log_store.specs.State.{LogStoreState}
use Rattle.silt_manifest.specs.Standing.{ManifestState}
use Rattle.silt_manifest.specs.declared.body.Body.{Body}
use Rattle.silt_merge.specs.State.{MergeState, IsHeldMerge}
use Rattle.silt_sorted_store.specs.State.{SortedState, IsHeldSorted}
use Rattle.silt_trie.specs.Marks.{MarkedCode}

-- The manifest. The log that takes writes. The full logs behind it, the newest first. The hash stores behind these, the newest first. The
-- sorted store behind all of them, with its index and its digest. The conversion of the oldest log and the merge, if they are in progress.
-- The number of put rows, the waiting ones included.
pub record EngineState : Type 0 where
  pub manifest : ManifestState
  pub active : LogStoreState
  pub frozen : List LogStoreState
  pub hashes : List HashState
  pub sorted : SortedState
  pub index : MarkedCode
  pub digest : List ℕ
  pub converting : Option ConversionState
  pub merging : Option MergeState
  pub charge : ℕ

-- the region of a log
abbrev pub region_of : LogStoreState → ℕ
region_of store = store.log.region

-- the region of a hash store
abbrev pub hash_region_of : HashState → ℕ
hash_region_of store = store.region

-- the oldest of the frozen logs, which is the next one to be converted
abbrev pub oldest_log : EngineState → LogStoreState
oldest_log s = get_or s.frozen (length s.frozen - 1) s.active

-- a hash store of the body has this region
abbrev pub names_hash : Body → ℕ → Bool
names_hash body region = list_any (λ id. id == region) body.hashed

-- a log of this shape in which no row waits
pub record IsSettled (shape : Shape) (store : LogStoreState) : Type 0 where
  pub has_shape : store.log.shape ≡ shape
  pub settled : store.log.settled ≡ store.log.used

-- a hash store of this shape
pub record IsHashOf (shape : Shape) (store : HashState) : Type 0 where
  pub has_shape : store.shape ≡ shape
  pub held : IsHeldHash store

-- a conversion of a frozen log into a hash region that is free
pub record IsUnderWay (s : EngineState) (conversion : ConversionState) : Type 0 where
  pub has_shape : conversion.shape ≡ s.manifest.shape
  pub some_frozen : 0 < length s.frozen
  pub there : conversion.region < s.manifest.shape.hashes
  pub free : names_hash s.manifest.current conversion.region ≡ false
  pub most : conversion.next ≤ 4 * s.manifest.shape.buckets

-- a merge of the oldest hash stores, at least one, and the sorted store into the other sorted region
pub record IsMerging (s : EngineState) (merge : MergeState) : Type 0 where
  pub has_shape : merge.shape ≡ s.manifest.shape
  pub apart : s.sorted.region ≢ merge.region
  pub some : 0 < merge.stores
  pub most : merge.stores ≤ length s.hashes
  pub held : IsHeldMerge merge

-- the sorted store that a body names
abbrev pub sorted_named : Shape → Body → SortedState
sorted_named shape body = record { shape = shape; region = body.sorted; count = body.sorted_count }

-- the stores are those that the current manifest record names, a conversion and a merge write free regions, and there are no more put rows
-- than the store may hold
pub record AreWhole (s : EngineState) : Type 0 where
  pub has_shape : s.active.log.shape ≡ s.manifest.shape
  pub active_region : s.active.log.region ≡ s.manifest.current.active
  pub frozen_regions : map region_of s.frozen ≡ s.manifest.current.frozen
  pub settled : All (IsSettled s.manifest.shape) s.frozen
  pub hash_regions : map hash_region_of s.hashes ≡ s.manifest.current.hashed
  pub hashed : All (IsHashOf s.manifest.shape) s.hashes
  pub sorted : s.sorted ≡ sorted_named s.manifest.shape s.manifest.current
  pub held : IsHeldSorted s.sorted
  pub under_way : IfSome s.converting (IsUnderWay s)
  pub merging : IfSome s.merging (IsMerging s)
  pub most : s.charge ≤ s.manifest.shape.sorted_capacity

-- what holds of the stores on any device: there is room in memory for as many frozen logs and hash stores as a device can have
pub record AreHeld (s : EngineState) (log_room hash_room : ℕ) : Type 0 where
  pub whole : AreWhole s
  pub enough : most_frozen ≤ log_room
  pub enough_hashes : most_hashes ≤ hash_room
