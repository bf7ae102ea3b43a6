-- Laws of merges, for the crates above.
use Rattle.std.specs.Prelude.{◌≡◌, ℕ, ◌≤◌, IsTrue, List, [], ◌++◌, length}
use Rattle.std.specs.FinMap.{len}
use Rattle.std.specs.List.{All}
use Rattle.silt_disk.specs.Disk.{ChangesWithin, Content, LiesOutside, size}
use Rattle.silt_disk.specs.Layout.{device_size, entries_len, hash_at, slots_len, sorted_at}
use Rattle.silt_hash_store.specs.State.{HashState, IsHashStore, IsHeldHash}
use Rattle.silt_event.specs.Rows.{map_of_rows}
use Rattle.silt_sorted_store.specs.Findings.{sorted_findings}
use Rattle.silt_frame.specs.Rows.{put_count, StoredRow}
use Rattle.silt_merge.specs.Merging.{AreSound, HasMerged, IsMergeOf}
use Rattle.silt_merge.specs.Rows.{entries_in, key_count, merged_rows}
use Rattle.silt_merge.specs.State.{IsHeldMerge, MergeState, oldest_stores}
use Rattle.silt_sorted_store.specs.State.{IsHeldSorted, SortedState}

-- the newest rows that are puts are a merge of all rows
abbrev pub MergedLaw : Type 0
MergedLaw = (rows : List StoredRow) → IsMergeOf rows (merged_rows rows)

-- there are at most as many keys as rows, and at most as many entries as puts
abbrev pub KeyCountLaw : Type 0
KeyCountLaw = (rows : List StoredRow) → (key_count rows ≤ length rows) × (length (merged_rows rows) ≤ put_count rows)

-- there are as many entries as keys that have a value
abbrev pub MergedCountLaw : Type 0
MergedCountLaw = (rows : List StoredRow) → length (merged_rows rows) ≡ len (map_of_rows rows)

-- hash stores of one shape and a sorted store, matching an honest disk, are sound if the entries rise
abbrev pub SoundStoresLaw : Type 0
SoundStoresLaw =
    (content : Content) (stores : List HashState) (sorted : SortedState) → IsTrue content.honest → All (λ store. store.shape ≡ sorted.shape) stores
    → All IsHeldHash stores → All (IsHashStore content) stores → sorted_findings (entries_in content.shown sorted) ≡ [] → AreSound content.shown stores sorted

-- a merge has gathered and written the same after a change outside its entries, the sorted store's entries and the hash stores' slots
abbrev pub MergedElsewhereLaw : Type 0
MergedElsewhereLaw =
    (stores : List HashState) (sorted : SortedState) (merge : MergeState) (old new : Content) (at count : ℕ) → IsHeldSorted sorted → IsHeldMerge merge
    → device_size sorted.shape ≤ size old
    → LiesOutside (sorted_at sorted.shape merge.region) (entries_len sorted.shape) at count → LiesOutside (sorted_at sorted.shape sorted.region) (entries_len sorted.shape) at count
    → All (λ store. LiesOutside (hash_at sorted.shape store.region) (slots_len sorted.shape) at count) stores → ChangesWithin at count old new
    → HasMerged old stores sorted merge → HasMerged new stores sorted merge

-- the stores that a merge took are still the oldest ones after newer stores came
abbrev pub OldestStoresLaw : Type 0
OldestStoresLaw = (newer stores : List HashState) (count : ℕ) → count ≤ length stores → oldest_stores count (newer ++ stores) ≡ oldest_stores count stores

-- ---- a finished merge
