-- The next log: the active log is set behind the others, and this one takes its place.
use Rattle.std.specs.Prelude.{◌≡◌, ◌<◌, ◌+◌, ◌-◌, ◌^◌, ◌==◌, ℕ, Bool, true, false, [], ◌∷◌, length}
use Rattle.std.specs.List.{list_any}
use Rattle.silt_cuckoo.specs.Slots.{empty_slots}
use Rattle.silt_disk.specs.Disk.{Content, LeavesOnly}
use Rattle.silt_disk.specs.Layout.{Shape}
use Rattle.silt_log.specs.Rows.{log_rows}
use Rattle.silt_log_store.specs.State.{LogStoreState, IsLogStore}
use Rattle.silt_manifest.specs.Standing.{ManifestState}
use Rattle.silt_manifest.specs.declared.body.Body.{Body}
use Rattle.silt_engine.specs.declared.next_log.NextLog.{NextLog}
use Rattle.silt_engine.specs.declared.next_log.NoNextLog.{NoNextLog}
use Rattle.silt_engine.specs.declared.next_log.NoNextLog.TheVariants.{NoRoom, Spent, NoMemory}
use Rattle.silt_standing.specs.State.{EngineState}
use Rattle.silt_engine.specs.Calls.{HasNoFreeLog, IsLastGeneration}
use Rattle.silt_standing.specs.Standing.{IsQuiet}

-- a log of the body has this region
abbrev pub names_region : Body → ℕ → Bool
names_region body region = list_any (λ id. id == region) (body.active ∷ body.frozen)

-- the record names all of this many regions
abbrev pub AreAllNamed : ℕ → Body → Type 0
AreAllNamed logs body = (region : ℕ) → region < logs → names_region body region ≡ true

-- the lowest of this many regions that the record does not name
pub record IsLowestFree (logs : ℕ) (body : Body) (region : ℕ) : Type 0 where
  pub below : region < logs
  pub free : names_region body region ≡ false
  pub lowest : (earlier : ℕ) → earlier < region → names_region body earlier ≡ true

-- the body that freezes the active log and has this region in its place
abbrev pub next_body : Body → ℕ → Body
next_body body region = record body { generation = body.generation + 1; active = region; frozen = body.active ∷ body.frozen }

-- a log of this region with no rows, an empty table and no puts
abbrev pub empty_store : Shape → ℕ → LogStoreState
empty_store shape region = record {
  log = record { shape = shape; region = region; settled = 0; used = 0; stale = false };
  table = empty_slots shape.buckets;
  puts = 0;
}

-- a new log in the lowest free region, with the body that puts it in front of the others
pub record IsNextLog (s : EngineState) (next : NextLog) : Type 0 where
  pub region : ℕ
  pub lowest : IsLowestFree s.manifest.shape.logs s.manifest.current region
  pub spare : length s.frozen + 1 < s.manifest.shape.logs
  pub unspent : s.manifest.current.generation < 2 ^ 63 - 1
  pub body : next.body ≡ next_body s.manifest.current region
  pub store : next.store ≡ empty_store s.manifest.shape region

-- why there is no next log, in the order in which it is decided
abbrev pub NoNextCause : EngineState → NoNextLog → Type 0
NoNextCause s NoRoom = HasNoFreeLog s
NoNextCause s Spent = (HasNoFreeLog s → ⊥) × IsLastGeneration s
NoNextCause s NoMemory = (HasNoFreeLog s → ⊥) × (IsLastGeneration s → ⊥)

-- the next log is the active one, with no rows, and the log that was active is in front of the frozen ones
pub record HasFrozen (next : NextLog) (content : Content) (before after : EngineState) : Type 0 where
  pub quiet : IsQuiet content after
  pub active : after.active ≡ next.store
  pub current : after.manifest.current ≡ next.body
  pub frozen : length after.frozen ≡ length before.frozen + 1
  pub hashes : after.hashes ≡ before.hashes
  pub sorted : after.sorted ≡ before.sorted
  pub index : after.index ≡ before.index
  pub digest : after.digest ≡ before.digest
  pub converting : after.converting ≡ before.converting
  pub merging : after.merging ≡ before.merging
  pub charge : after.charge ≡ before.charge

-- ---- between the steps

-- in memory: under this manifest, this log is the active one, and the log that was active is in front of the frozen ones
abbrev pub active_replaced : EngineState → ManifestState → LogStoreState → EngineState
active_replaced s manifest log = record {
  manifest = manifest;
  active = log;
  frozen = s.active ∷ s.frozen;
  hashes = s.hashes;
  sorted = s.sorted;
  index = s.index;
  digest = s.digest;
  converting = s.converting;
  merging = s.merging;
  charge = s.charge;
}

-- the region of a new log has no rows in each possible crash image
pub record IsEmptied (content : Content) (s : EngineState) (next : NextLog) : Type 0 where
  pub follows : IsNextLog s next
  pub stands : IsLogStore content next.store
  pub images : LeavesOnly content (λ image. log_rows s.manifest.shape next.store.log.region image ≡ [])
