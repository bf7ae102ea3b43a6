-- A log with the table of its keys, and what the disk has of it.
use Rattle.std.specs.Prelude.{◌≡◌, ℕ, ◌≤◌, true, IsTrue, Some}
use Rattle.std.specs.List.{list_all}
use Rattle.silt_disk.specs.Disk.{Content, LeavesOnly}
use Rattle.silt_log.specs.Rows.{log_rows}
use Rattle.silt_frame.specs.Rows.{has_known_kind, keys_of, put_count}
use Rattle.silt_log.specs.State.{LogState, InBounds, IsLog, all_rows}
use Rattle.silt_cuckoo.specs.Slots.{Slots, IsTable, PlacesBelow, bucket_count}
use Rattle.silt_cuckoo.specs.Index.{index_of_keys}

-- a log, the table of its keys, and how many of the rows are puts, with the waiting ones
pub record LogStoreState : Type 0 where
  pub log : LogState
  pub table : Slots
  pub puts : ℕ

-- the invariant of every log store, on any disk: its table has the buckets of its geometry, and places of its rows alone, and it
-- counts at most its rows as puts
pub record IsHeldStore (store : LogStoreState) : Type 0 where
  pub bounds : InBounds store.log
  pub table : IsTable store.table
  pub count : bucket_count store.table ≡ store.log.shape.buckets
  pub below : PlacesBelow store.table store.log.used
  pub most : store.puts ≤ store.log.used

-- on an honest disk the rows that are shown are of known kinds, the table is that of their keys, and the number is that of their puts
pub record IsIndexed (content : Content) (store : LogStoreState) : Type 0 where
  pub known : IsTrue content.honest → list_all has_known_kind (all_rows content store.log) ≡ true
  pub indexed : IsTrue content.honest → index_of_keys store.log.shape.buckets (keys_of (all_rows content store.log)) ≡ Some store.table
  pub counted : IsTrue content.honest → store.puts ≡ put_count (all_rows content store.log)

-- a log store that takes rows and matches the disk: its log does, and its table is that of the log's keys
pub record IsLogStore (content : Content) (store : LogStoreState) : Type 0 where
  pub log : IsLog content store.log
  pub index : IsIndexed content store

-- a log store that is only read and matches the disk: each possible crash image has its rows, with or without stale open commit bytes
pub record IsFrozenStore (content : Content) (store : LogStoreState) : Type 0 where
  pub images : LeavesOnly content (λ image. log_rows store.log.shape store.log.region image ≡ all_rows content store.log)
  pub index : IsIndexed content store
