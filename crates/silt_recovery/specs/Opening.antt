-- What an opening finds on a device, and what it leaves.
use Rattle.std.specs.Prelude.{◌≡◌, ◌⊎◌, ℕ, Bool, false, cond, IsTrue, List, All, length, sum_by, None, Result, Ok, Err}
use Rattle.silt_disk.specs.Disk.{Content, Left, LeavesOnly, Makes, MakesAtMost, Rests, size}
use Rattle.silt_disk.specs.Layout.{InLimits, device_size}
use Rattle.silt_hash_store.specs.State.{IsHashStore}
use Rattle.silt_disk.specs.Header.{shape_of}
use Rattle.silt_image.specs.Meaning.{AreDigestsOf, IsGood, IsSound, StandsFor, charge_of, image_map, report_of}
use Rattle.silt_log.specs.Parts.{known_rows}
use Rattle.silt_log.specs.Rows.{has_stale_commit}
use Rattle.silt_image.specs.Stores.{Stores, image_digests, image_stores}
use Rattle.silt_event.specs.declared.damage.Finding.{Finding}
use Rattle.silt_event.specs.declared.report.Report.{Report}
use Rattle.silt_manifest.specs.Standing.{IsCurrent}
use Rattle.silt_standing.specs.Standing.{IsQuiet, SameDisk}
use Rattle.silt_standing.specs.Standing.{IsDigested, IsLocated, Stands, base_map, shown_stores}
use Rattle.silt_standing.specs.State.{EngineState, AreWhole}
use Rattle.silt_recovery.specs.Logs.{IsReadLog}
use Rattle.silt_recovery.specs.declared.examination.Holding.{Holding}
use Rattle.silt_recovery.specs.declared.fault.OpenError.{OpenError}
use Rattle.silt_recovery.specs.declared.fault.OpenError.TheVariants.{Device}

-- the stores in memory, with no conversion and no merge in progress
abbrev pub held_stores : Holding → EngineState
held_stores held = record {
  manifest = held.manifest;
  active = held.active;
  frozen = held.frozen.items;
  hashes = held.hashes.items;
  sorted = held.sorted.sorted;
  index = held.sorted.index;
  digest = held.sorted.digest;
  converting = None;
  merging = None;
  charge = held.charge;
}

-- what is held in memory of a device in which nothing is found: the stores that it shows
pub record Holds (content : Content) (s : EngineState) : Type 0 where
  pub limits : InLimits s.manifest.shape
  pub has_size : size content ≡ device_size s.manifest.shape
  pub whole : AreWhole s
  pub idle : s.manifest.prepared ≡ None
  pub none_converted : s.converting ≡ None
  pub none_merged : s.merging ≡ None
  pub current : Rests content → IsCurrent s.manifest content
  pub active : IsReadLog content s.manifest.shape s.active
  pub frozen : All (IsReadLog content s.manifest.shape) s.frozen
  pub hashed : All (IsHashStore content) s.hashes
  pub located : IsLocated content s
  pub digested : IsDigested content s
  pub named : IsTrue content.honest → image_stores content.shown ≡ Ok (shown_stores content s)
  pub says : IsTrue content.honest → image_digests content.shown ≡ s.manifest.digests
  pub sound : IsTrue content.honest → IsSound (shown_stores content s)
  pub said : IsTrue content.honest → AreDigestsOf s.manifest.digests (shown_stores content s)
  pub counted : IsTrue content.honest → s.charge ≡ charge_of (shown_stores content s)

-- together the hash stores that are shown have this many rows of known kinds
abbrev pub CountsHashRows : Content → EngineState → ℕ → Type 0
CountsHashRows content s count = IsTrue content.honest → count ≡ sum_by (λ part. length (known_rows part)) (shown_stores content s).hashes

-- these are the numbers of the stores of an image, in which nothing is found
pub record IsReported (image : List ℕ) (report : Report) : Type 0 where
  pub stores : Stores
  pub are : image_stores image ≡ Ok stores
  pub good : IsGood image
  pub numbers : report ≡ report_of (image_digests image) stores

-- each crash image that is possible now was possible before, or represents what was shown
abbrev pub LeavesNoOther : Content → Content → Type 0
LeavesNoOther old new = LeavesOnly new (λ image. Left old image ⊎ StandsFor (shape_of old.shown) (image_map old.shown) image)

-- nothing was written: the disk shows what it showed, and each crash image that is possible now was possible before
pub record IsUnwritten (old new : Content) : Type 0 where
  pub shown : IsTrue old.honest → new.shown ≡ old.shown
  pub left : LeavesOnly new (Left old)

-- nothing was written, or a device call failed
abbrev pub IsUnwrittenUnlessFailed : {F : Type 0} → Content → Content → OpenError F → Type 0
IsUnwrittenUnlessFailed old new (Device fault) = Unit {0}
IsUnwrittenUnlessFailed old new error = IsUnwritten old new

-- the store is opened: its stores stand on the disk, no row waits, no conversion and no merge is in progress, and the map is that of the
-- image that was shown, which is good
pub record TakesUp (old new : Content) (s : EngineState) : Type 0 where
  pub disk : SameDisk old new
  pub stands : Stands new s
  pub quiet : IsQuiet new s
  pub none_converted : s.converting ≡ None
  pub none_merged : s.merging ≡ None
  pub good : IsTrue old.honest → IsGood old.shown
  pub has_shape : IsTrue old.honest → s.manifest.shape ≡ shape_of old.shown
  pub has_map : IsTrue old.honest → base_map new s ≡ image_map old.shown

-- whether the active log of these stores has an open commit byte past its first closed one
abbrev pub are_stale : List ℕ → Result Stores Finding → Bool
are_stale image (Ok stores) = has_stale_commit stores.shape stores.body.active image
are_stale image (Err finding) = false

-- whether the active log of an image has an open commit byte past its first closed one
unfoldable pub has_stale_log : List ℕ → Bool
has_stale_log image = are_stale image (image_stores image)

-- What an opening costs: one sync, and one write and one more sync if it closed commit bytes. On an honest disk it did exactly if the active
-- log had an open commit byte past its first closed one.
pub record CostsOpening {D : Type 0} (content : D → Content) (writes_of syncs_of : D → ℕ) (old new : D) : Type 0 where
  pub stale : Bool
  pub is : IsTrue (content old).honest → stale ≡ has_stale_log (content old).shown
  pub made : Makes writes_of syncs_of (cond stale 1 0) (cond stale 2 1) old new

-- What a refused opening costs: one sync; if a device call failed, at most one write and two syncs.
abbrev pub CostsRefusal : {D F : Type 0} → (D → ℕ) → (D → ℕ) → D → D → OpenError F → Type 0
CostsRefusal writes_of syncs_of old new (Device fault) = MakesAtMost writes_of syncs_of 1 2 old new
CostsRefusal writes_of syncs_of old new error = Makes writes_of syncs_of 0 1 old new
