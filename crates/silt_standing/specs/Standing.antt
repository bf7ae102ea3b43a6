-- How the stores in memory match a disk.
use Rattle.std.specs.Prelude.{◌≡◌, ℕ, IsTrue, List, [], ◌++◌, All, map, IfSome, None, Ok}
use Rattle.silt_disk.specs.Disk.{Content, LeavesOnly, size}
use Rattle.silt_disk.specs.Layout.{device_size}
use Rattle.silt_conversion.specs.Conversion.{HasWritten}
use Rattle.silt_hash_store.specs.State.{IsHashStore}
use Rattle.silt_event.specs.Commands.{Command, Map, map_after}
use Rattle.silt_image.specs.Stores.{Stores, image_stores, stores_named}
use Rattle.silt_image.specs.Meaning.{AreDigestsOf, IsSound, rows_of, with_log_rows}
use Rattle.silt_event.specs.Rows.{command_of, map_of_rows}
use Rattle.silt_frame.specs.Rows.{put_count}
use Rattle.silt_log.specs.Rows.{log_rows, open_count}
use Rattle.silt_log.specs.State.{InBounds, IsLog, all_rows, settled_rows, waiting_rows}
use Rattle.silt_log.specs.State as log
use Rattle.silt_log_store.specs.State.{LogStoreState, IsIndexed}
use Rattle.silt_manifest.specs.Standing.{IsCurrent}
use Rattle.silt_merge.specs.Comparing.{HasCompared, IsSoundMerge}
use Rattle.silt_merge.specs.Merging.{HasMerged}
use Rattle.silt_merge.specs.State.{MergeState, oldest_stores}
use Rattle.silt_sorted_store.specs.Index.{HasIndex}
use Rattle.silt_sorted_store.specs.State.{HasDigest}
use Rattle.silt_standing.specs.State.{EngineState, AreWhole, oldest_log}

-- ---- the disk

-- the disk keeps its length, and whether it obeys the crash model
pub record SameDisk (old new : Content) : Type 0 where
  pub size : size new ≡ size old
  pub honest : new.honest ≡ old.honest

-- ---- what they mean

-- the stores that the disk shows, as the manifest in memory names them
abbrev pub shown_stores : Content → EngineState → Stores
shown_stores content s = stores_named s.manifest.shape s.manifest.current content.shown

-- the map of the settled rows
unfoldable pub base_map : Content → EngineState → Map
base_map content s = map_of_rows (rows_of (shown_stores content s))

-- the commands of the rows that wait, in order
abbrev pub waiting_commands : Content → EngineState → List Command
waiting_commands content s = map command_of (waiting_rows content s.active.log)

-- the map that lookups read
abbrev pub current_map : Content → EngineState → Map
current_map content s = map_after (base_map content s) (waiting_commands content s)

-- what is shown, with the commit bytes of the waiting rows open
abbrev pub full_image : Content → EngineState → List ℕ
full_image content s = log.opened_image content s.active.log

-- ---- how they stand

-- a frozen log has the rows before the first closed commit byte, and their table
pub record IsFrozen (content : Content) (store : LogStoreState) : Type 0 where
  pub rows : IsTrue content.honest → store.log.used ≡ open_count store.log.shape store.log.region content.shown
  pub indexed : IsIndexed content store

-- the index is that of the sorted store's entries
abbrev pub IsLocated : Content → EngineState → Type 0
IsLocated content s = HasIndex content s.sorted s.index

-- the digest is that of the sorted store's entries
abbrev pub IsDigested : Content → EngineState → Type 0
IsDigested content s = HasDigest content s.sorted s.digest

-- a merge of the oldest hash stores and the sorted store has gathered and written what is due so far, and compared what it read of each
-- of them with its digest. On a disk that obeys the crash model it has found none of them damaged.
abbrev pub HasGathered : Content → EngineState → MergeState → Type 0
HasGathered content s merge =
    HasMerged content (oldest_stores merge.stores s.hashes) s.sorted merge × HasCompared (oldest_stores merge.stores s.hashes) s.sorted s.digest merge
    × IsSoundMerge content merge

-- The stores match their disk: every possible crash image has the stores that are shown, and nothing is wrong with these, also once the
-- waiting rows are settled. The tables, the tags, the index and the digests in memory are those of what is shown. So are the digests that
-- the manifest has, if it has any. A conversion and a merge have written exactly what is due so far. What a merge has read has the digests
-- of its stores, on any disk.
pub record Stands (content : Content) (s : EngineState) : Type 0 where
  pub has_size : size content ≡ device_size s.manifest.shape
  pub whole : AreWhole s
  pub idle : s.manifest.prepared ≡ None
  pub current : IsCurrent s.manifest content
  pub active : IsLog content s.active.log
  pub indexed : IsIndexed content s.active
  pub frozen : All (IsFrozen content) s.frozen
  pub hashed : All (IsHashStore content) s.hashes
  pub located : IsLocated content s
  pub digested : IsDigested content s
  pub written : IfSome s.converting (HasWritten content (oldest_log s))
  pub merged : IfSome s.merging (HasGathered content s)
  pub named : LeavesOnly content (λ image. image_stores image ≡ Ok (shown_stores content s))
  pub sound : IsTrue content.honest → IsSound (with_log_rows s.active.log.region (all_rows content s.active.log) (shown_stores content s))
  pub said : IsTrue content.honest → AreDigestsOf s.manifest.digests (shown_stores content s)
  pub counted : IsTrue content.honest → s.charge ≡ put_count (rows_of (shown_stores content s) ++ waiting_rows content s.active.log)

-- What reading needs: every possible crash image has the stores that the disk shows, and memory has the same ones, with the waiting rows.
pub record ShowsStores (content : Content) (s : EngineState) : Type 0 where
  pub whole : AreWhole s
  pub bounds : InBounds s.active.log
  pub active : IsTrue content.honest → log_rows s.active.log.shape s.active.log.region content.shown ≡ settled_rows content s.active.log
  pub frozen : All (IsFrozen content) s.frozen

-- no command waits
pub record IsQuiet (content : Content) (s : EngineState) : Type 0 where
  pub settled : s.active.log.settled ≡ s.active.log.used
  pub none_wait : waiting_commands content s ≡ []
