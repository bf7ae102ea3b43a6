-- What the calls of a log store do to it and to the disk.
use Rattle.std.specs.Prelude.{◌≡◌, ◌+◌, ◌<◌, ◌⊎◌, ℕ, IsTrue, IsSome, List, [], ◌∷◌, ◌++◌, None}
use Rattle.silt_cuckoo.specs.Index.{index_of_keys}
use Rattle.silt_disk.specs.Disk.{Content, CountsFault, GaveAny}
use Rattle.silt_disk.specs.declared.disk.Disk.{Ghosts}
use Rattle.silt_frame.specs.declared.key.Key.{Key}
use Rattle.silt_frame.specs.declared.key.Kind.{Kind}
use Rattle.silt_frame.specs.Rows.{keys_of, puts_of, stored_row}
use Rattle.silt_log.specs.State.{all_rows}
use Rattle.silt_log.specs.Calls.{Empties, Appends, KeepsRows, OpensCommits, OpensSome, Seals}
use Rattle.silt_log_store.specs.State.{LogStoreState, IsIndexed, IsLogStore}
use Rattle.silt_log_store.specs.Placement.{HoldsIn, entered}
use Rattle.silt_log_store.specs.declared.log_store.TakeError.{TakeError}
use Rattle.silt_log_store.specs.declared.log_store.TakeError.TheVariants.{Full, Read, Write}
use Rattle.silt_log_store.specs.declared.placement.Placing.{Placing}

-- the store has no rows, and each possible crash image has none
pub record EmptiesStore (new : Content) (before after : LogStoreState) : Type 0 where
  pub log : Empties new before.log after.log
  pub table : after.table ≡ before.table
  pub puts : after.puts ≡ before.puts
  pub stands : IsLogStore new after

-- one more row waits, its key is in the table, and a put is counted
pub record TakesRow (kind : Kind) (key : Key) (value : List ℕ) (old new : Content) (before after : LogStoreState) : Type 0 where
  pub log : Appends (stored_row kind key value) old new before.log after.log
  pub puts : after.puts ≡ before.puts + puts_of kind
  pub stands : IsLogStore new after

-- the store is as before, with the same rows
pub record KeepsStore (old new : Content) (before after : LogStoreState) : Type 0 where
  pub store : after ≡ before
  pub log : KeepsRows old new before.log after.log
  pub stands : IsLogStore new after

-- the rows that waited are settled
pub record OpensStore (old new : Content) (before after : LogStoreState) : Type 0 where
  pub log : OpensCommits old new before.log after.log
  pub table : after.table ≡ before.table
  pub puts : after.puts ≡ before.puts
  pub stands : IsLogStore new after

-- some commit bytes of the waiting rows may be open, and the rows are the same
pub record OpensSomeOfStore (old new : Content) (before after : LogStoreState) : Type 0 where
  pub store : after ≡ before
  pub log : OpensSome old new before.log after.log
  pub index : IsIndexed new after

-- all commit bytes past the first closed one are closed, and the rows are the same
pub record SealsStore (old new : Content) (before after : LogStoreState) : Type 0 where
  pub log : Seals old new before.log after.log
  pub table : after.table ≡ before.table
  pub puts : after.puts ≡ before.puts
  pub all : IsTrue old.honest → all_rows new after.log ≡ all_rows old before.log
  pub stands : IsIndexed old before → IsLogStore new after

-- A row of this key can be taken at this placing: the log has room, the placing was made for this very table, and entering the key by
-- it gives the table of all keys with this one.
pub record IsPlacingFor (content : Content) (store : LogStoreState) (key : List ℕ) (placing : Placing) : Type 0 where
  pub room : store.log.used < store.log.shape.log_capacity
  pub holds : HoldsIn store.table placing
  pub takes : IsTrue content.honest → IsIndexed content store → IsSome (index_of_keys store.log.shape.buckets (keys_of (all_rows content store.log) ++ key ∷ []))
  pub table : IsTrue content.honest → IsIndexed content store → index_of_keys store.log.shape.buckets (keys_of (all_rows content store.log) ++ key ∷ [])
      ≡ entered store.table placing store.log.used

-- a row of this key can be taken: the log has room, and the keys with this one have a table
pub record CanTake (content : Content) (store : LogStoreState) (key : List ℕ) : Type 0 where
  pub room : store.log.used < store.log.shape.log_capacity
  pub placed : IsTrue content.honest → IsSome (index_of_keys store.log.shape.buckets (keys_of (all_rows content store.log) ++ key ∷ []))

-- a row of this key cannot be taken: the log has no room, or the keys with this one have no table
abbrev pub IsFullFor : Content → LogStoreState → List ℕ → Type 0
IsFullFor content store key = (store.log.used ≡ store.log.shape.log_capacity) ⊎ (index_of_keys store.log.shape.buckets (keys_of (all_rows content store.log) ++ key ∷ []) ≡ None)

module _ {D F : Type 0} (facts : Ghosts D F) (old new : D) (before after : LogStoreState) (key : List ℕ) where
  -- why a row of this key was not taken: the store is full for it or a read failed, and nothing is written; or a write failed, and
  -- the store has the same rows
  abbrev pub FailsTake : TakeError F → Type 0
  FailsTake Full = (new ≡ old) × (IsTrue (facts.content old).honest → IsFullFor (facts.content old) before key)
  FailsTake (Read fault) = (new ≡ old) × GaveAny facts.gave old fault
  FailsTake (Write fault) = CanTake (facts.content old) before key × KeepsStore (facts.content old) (facts.content new) before after × CountsFault facts.failures facts.gave old new fault

-- the error is that of a write
abbrev pub IsFailedWrite : {F : Type 0} → TakeError F → Type 0
IsFailedWrite Full = ⊥
IsFailedWrite (Read fault) = ⊥
IsFailedWrite (Write fault) = Unit {0}
