-- What a rebuild returns for the rows of a log, from the oldest on.
use Rattle.std.specs.Prelude.{◌≡◌, ℕ, ◌+◌, ◌<◌, Bool, true, false, List, length, map, take, get_or, IsSome, Some, None}
use Rattle.std.specs.List.{list_all}
use Rattle.silt_disk.specs.Disk.{Content}
use Rattle.silt_log.specs.Rows.{log_rows}
use Rattle.silt_frame.specs.Rows.{has_known_kind, StoredRow, keys_of, put_count}
use Rattle.silt_log.specs.State.{IsScanned}
use Rattle.silt_cuckoo.specs.Index.{index_of_keys}
use Rattle.silt_log_store.specs.declared.rebuild.RebuildError.{RebuildError}
use Rattle.silt_log_store.specs.declared.rebuild.RebuildError.TheVariants.{Damaged, Crowded, Device, NoMemory}
use Rattle.silt_log_store.specs.State.{LogStoreState}

-- the row of this number exists and is of a known kind
abbrev pub has_known_kind_at : List StoredRow → ℕ → Bool
has_known_kind_at rows place = get_or (map has_known_kind rows) place false

-- the rows before this one are of known kinds, and their keys have places in a table
pub record IsSoundBefore (buckets : ℕ) (rows : List StoredRow) (place : ℕ) : Type 0 where
  pub known : list_all has_known_kind (take place rows) ≡ true
  pub placed : IsSome (index_of_keys buckets (keys_of (take place rows)))

-- the row of this number is the first bad one: its kind is unknown
pub record IsFirstDamaged (buckets : ℕ) (rows : List StoredRow) (place : ℕ) : Type 0 where
  pub there : place < length rows
  pub before : IsSoundBefore buckets rows place
  pub unknown : has_known_kind_at rows place ≡ false

-- the row of this number is the first bad one: its kind is known, and its key has no place in the table
pub record IsFirstCrowded (buckets : ℕ) (rows : List StoredRow) (place : ℕ) : Type 0 where
  pub there : place < length rows
  pub before : IsSoundBefore buckets rows place
  pub known : has_known_kind_at rows place ≡ true
  pub crowded : index_of_keys buckets (keys_of (take (place + 1) rows)) ≡ None

-- a store that was rebuilt from what is shown: the rows before the first closed commit byte, all of known kinds, the table of their keys
-- and the number of their puts
pub record IsRebuilt (content : Content) (store : LogStoreState) : Type 0 where
  pub scanned : IsScanned content store.log
  pub known : list_all has_known_kind (log_rows store.log.shape store.log.region content.shown) ≡ true
  pub indexed : index_of_keys store.log.shape.buckets (keys_of (log_rows store.log.shape store.log.region content.shown)) ≡ Some store.table
  pub counted : store.puts ≡ put_count (log_rows store.log.shape store.log.region content.shown)

-- why a rebuild was refused: the damaged row's number, a key with no place, or the fault of a read; out of memory says nothing
abbrev pub IsRefusedRebuild : {F : Type 0} → (ℕ → Type 0) → Type 0 → (F → Type 0) → RebuildError F → Type 0
IsRefusedRebuild IsDamaged IsCrowded WasGiven (Damaged place) = IsDamaged place
IsRefusedRebuild IsDamaged IsCrowded WasGiven Crowded = IsCrowded
IsRefusedRebuild IsDamaged IsCrowded WasGiven (Device fault) = WasGiven fault
IsRefusedRebuild IsDamaged IsCrowded WasGiven NoMemory = Unit {0}
