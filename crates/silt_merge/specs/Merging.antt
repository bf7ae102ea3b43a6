-- What a merge has gathered and written.
use Rattle.std.specs.Prelude.{◌≡◌, ◌≢◌, ℕ, ◌≤◌, ◌<◌, nat_lt, cond, IsTrue, List, [], ◌++◌, filter, flat_map, get_or, length, map, take, true, Some, None, option_map}
use Rattle.std.specs.List.{All}
use Rattle.silt_disk.specs.Disk.{Content}
use Rattle.silt_disk.specs.Layout.{Shape}
use Rattle.silt_frame.specs.Frame.{kind_byte}
use Rattle.silt_hash_store.specs.Slots.{rows_before, slot_row, hash_part}
use Rattle.silt_hash_store.specs.State.{HashState}
use Rattle.silt_event.specs.Rows.{newest_row, map_of_rows}
use Rattle.silt_hash_store.specs.Findings.{hash_findings}
use Rattle.silt_sorted_store.specs.Findings.{sorted_findings}
use Rattle.silt_frame.specs.Rows.{StoredRow, entries_bytes, has_known_kind, is_put_row, keys_of, put_count, rows_bytes}
use Rattle.silt_sorted_store.specs.Index.{IsIndexOf}
use Rattle.silt_sorted_store.specs.State.{entries_of, sorted_rows, SortedState}
use Rattle.silt_frame.specs.declared.key.Key.{Key}
use Rattle.silt_merge.specs.Pieces.{AreEntries, AreSlots}
use Rattle.silt_merge.specs.Rows.{entries_in, has_row_with, rows_of_hashes, key_count, newest_rows, regions_of, sources}
use Rattle.silt_merge.specs.State.{MergeState, is_done, sorted_in, source_at}
use Rattle.silt_merge.specs.declared.source.Source.{Source}
use Rattle.silt_trie.specs.Building.{IsBuildingOf}
use Rattle.silt_trie.specs.Marks.{MarkedCode}
use Rattle.sha1.specs.Sha1.{Holds}
use Rattle.silt_hasher.specs.Taking.{HasTaken}

-- the merged stores lie in hash regions, and there is no finding in them
pub record AreSound (image : List ℕ) (stores : List HashState) (sorted : SortedState) : Type 0 where
  pub there : All (λ store. store.region < sorted.shape.hashes) stores
  pub hashes : flat_map (hash_findings sorted.shape) (map (hash_part sorted.shape image) (regions_of stores)) ≡ []
  pub entries : sorted_findings (entries_in image sorted) ≡ []

-- the row that a source names
abbrev pub source_row : Shape → List ℕ → List ℕ → Source → StoredRow
source_row shape image regions source = record (slot_row shape (get_or regions source.store 0) image source.slot) { kind = kind_byte source.kind }

-- the rows of the gathered slots, from the oldest: those of the older stores, and those of this store's slots before this one
unfoldable pub gathered_rows : Shape → List ℕ → List ℕ → ℕ → ℕ → List StoredRow
gathered_rows shape image regions store slot =
    filter has_known_kind (rows_before shape (get_or regions store 0) image slot) ++ rows_of_hashes shape image (take store regions)

-- the newest rows of the decided keys
abbrev pub decided_rows : List ℕ → List HashState → SortedState → ℕ → List StoredRow
decided_rows image stores sorted decided = take decided (newest_rows (sources image stores sorted))

-- So far the newest gathered row of each key waits until the key is decided, and the entries of decided keys are skipped. The last
-- key is a decided one, and the slots and the entries that are ahead are the next ones. The bytes of the slots of the store in
-- progress are hashed as far as they are gathered, and then those of the entries as far as they are skipped
pub record IsGatheredIn (image : List ℕ) (stores : List HashState) (sorted : SortedState) (merge : MergeState) : Type 0 where
  pub most : merge.decided ≤ key_count (sources image stores sorted)
  pub waits : (key : List ℕ) → option_map (source_row sorted.shape image (regions_of stores)) (source_at merge.waiting key)
      ≡ cond (has_row_with key (decided_rows image stores sorted merge.decided)) None (newest_row (gathered_rows sorted.shape image (regions_of stores) merge.store merge.slot) key)
  pub last : (key : Key) → merge.last ≡ Some key → has_row_with key.0 (decided_rows image stores sorted merge.decided) ≡ true
  pub slots : merge.store < length stores → AreSlots sorted.shape (get_or (regions_of stores) merge.store 0) image merge.slot merge.slots
  pub ahead : AreEntries (entries_in image sorted) merge.passed merge.ahead
  pub passes : (place : ℕ) → place < sorted.count
      → has_row_with (get_or (keys_of (entries_in image sorted)) place []) (decided_rows image stores sorted merge.decided) ≡ nat_lt place merge.passed
  pub slots_hashed : merge.store < length stores → HasTaken merge.input (rows_bytes (rows_before sorted.shape (get_or (regions_of stores) merge.store 0) image merge.slot))
  pub entries_hashed : length stores ≤ merge.store → HasTaken merge.input (entries_bytes (take merge.passed (entries_in image sorted)))

-- and the entries of decided keys are written, and their keys are indexed
pub record IsMergedIn (image : List ℕ) (stores : List HashState) (sorted : SortedState) (merge : MergeState) : Type 0 where
  pub gathered : IsGatheredIn image stores sorted merge
  pub writes : sorted_rows merge.shape merge.region merge.written image
      ≡ take merge.shape.sorted_capacity (filter is_put_row (decided_rows image stores sorted merge.decided))
  pub index : IsBuildingOf (keys_of (sorted_rows merge.shape merge.region merge.written image)) merge.index.building

-- So far everything is gathered and written, if the disk is honest and there is no finding in the merged stores. On any honest disk
-- the written entries are hashed.
pub record HasMerged (content : Content) (stores : List HashState) (sorted : SortedState) (merge : MergeState) : Type 0 where
  pub shape : sorted.shape ≡ merge.shape
  pub counted : length stores ≡ merge.stores
  pub apart : sorted.region ≢ merge.region
  pub hashed : IsTrue content.honest → Holds merge.hasher (entries_bytes (sorted_rows merge.shape merge.region merge.written content.shown))
  pub merged : IsTrue content.honest → AreSound content.shown stores sorted → IsMergedIn content.shown stores sorted merge

-- entries are a merge of rows: they rise by key, make the map that the rows make, and are at most as many as the rows' puts
pub record IsMergeOf (rows entries : List StoredRow) : Type 0 where
  pub rising : sorted_findings entries ≡ []
  pub same_map : map_of_rows entries ≡ map_of_rows rows
  pub charge : put_count entries ≤ put_count rows
  pub counted : length entries ≡ put_count entries

-- the shape, the region and the number of stores of a merge never change
pub record IsSameMerge (old new : MergeState) : Type 0 where
  pub shape : new.shape ≡ old.shape
  pub region : new.region ≡ old.region
  pub stores : new.stores ≡ old.stores

-- The index of what a merge wrote is made, in the memory in which it was built. If the merge is done, it is that of the entries.
pub record Seals (old new : MergeState) : Type 0 where
  pub made : MarkedCode
  pub same : new ≡ record old { index = record { building = old.index.building; sealed = Some made } }
  pub indexed : (content : Content) (stores : List HashState) (sorted : SortedState) → is_done old sorted ≡ true → HasMerged content stores sorted old
      → IsTrue content.honest → AreSound content.shown stores sorted → IsIndexOf (entries_of content (sorted_in old)) made
