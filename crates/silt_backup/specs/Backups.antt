-- What a backup of a store is.
use Rattle.std.specs.Prelude.{◌≡◌, ◌≢◌, ◌⊎◌, ◌+◌, ℕ, false, IsTrue, List, [], ◌∷◌, drop, get_or, slice_get, slice_range, Some, None, take, Result, Ok, IfErr}
use Rattle.sha1.specs.Sha1.{sha1}
use Rattle.silt_backup.specs.declared.backup.Backup.{Backup}
use Rattle.silt_backup.specs.declared.fault.BackupFault.{BackupFault}
use Rattle.silt_backup.specs.declared.fault.BackupFault.TheVariants.{Ended, Length, Unread, Device, NoMemory, Damaged}
use Rattle.silt_care.specs.declared.finds.Finds.{Ghosts as FindsOf}
use Rattle.silt_disk.specs.Disk.{GaveAny, size as size_of}
use Rattle.silt_disk.specs.Layout.{Shape, device_size, commits_at, log_size}
use Rattle.silt_disk.specs.declared.disk.Disk.{Ghosts}
use Rattle.silt_event.specs.declared.damage.Finding.TheVariants as finding
use Rattle.silt_hash_store.specs.State.{HashState}
use Rattle.silt_image.specs.Meaning.{AreDigestsOf, IsGood, image_map}
use Rattle.silt_image.specs.Stores.{Stores, image_stores}
use Rattle.silt_manifest.specs.declared.digests.Digests.{Digests}
use Rattle.silt_recovery.specs.Refusals.{IsFound}
use Rattle.silt_recovery.specs.declared.fault.OpenError.{OpenError}
use Rattle.silt_recovery.specs.declared.fault.OpenError.TheVariants as open_error
use Rattle.silt_standing.specs.State.{EngineState}
use Rattle.silt_store_set.specs.CoreState.{CoreState}
use Rattle.silt_view.specs.Moments.{IsMoment}
use Rattle.silt_view.specs.declared.moment.Moment.{Moment}
use Rattle.silt_view.specs.declared.view.View.{Ghosts as ViewOf}

-- ---- the backup

-- these are the bytes of a log region of an image
abbrev pub IsLogOf : Shape → ℕ → List ℕ → List ℕ → Type 0
IsLogOf shape region bytes image = bytes ≡ slice_range image (commits_at shape region) (commits_at shape region + log_size shape)

-- the bytes begin with those of these log regions of an image, one behind the other
abbrev pub AreLogs : Shape → List ℕ → List ℕ → List ℕ → Type 0
AreLogs shape [] bytes image = Unit {0}
AreLogs shape (region ∷ regions) bytes image = IsLogOf shape region (take (log_size shape) bytes) image × AreLogs shape regions (drop (log_size shape) bytes) image

-- A backup of a moment of a store: the image is good. It has the six numbers, and names the same regions. The hash stores and the sorted
-- store in these have the digests of that moment, and the logs its bytes.
pub record IsBackup (moment : Moment) (image : List ℕ) : Type 0 where
  pub good : IsGood image
  pub stores : Stores
  pub are : image_stores image ≡ Ok stores
  pub shape : stores.shape ≡ moment.geometry
  pub body : stores.body ≡ moment.body
  pub digests : AreDigestsOf (Some moment.digests) stores
  pub logs : AreLogs moment.geometry (moment.body.active ∷ moment.body.frozen) moment.logs.items image

-- two different byte strings have one digest
abbrev pub Collision : Type 0
Collision = (a : List ℕ) × (b : List ℕ) × (a ≢ b) × (sha1 a ≡ sha1 b)

-- A backup of a moment of a store that had not failed, on a disk that obeys the crash model, has the map of that moment's base; or two
-- byte strings have one digest.
abbrev pub BackupLaw : {D F : Type 0} → Ghosts D F → Type 0
BackupLaw {D} disk =
    (core : CoreState D) (moment : Moment) (image : List ℕ) → IsMoment disk core moment → IsTrue (disk.content core.disk).honest → core.failed ≡ false
    → IsBackup moment image → (image_map image ≡ core.base) ⊎ Collision

-- ---- how a copy is compared

-- these are the digests of the stores in memory: of the hash stores in order, and of the sorted store
pub record HasDigests (s : EngineState) (digests : Digests) : Type 0 where
  pub hashed : (place : ℕ) (store : HashState) → slice_get s.hashes place ≡ Some store → (get_or digests.hashed place (record { 0 = [] })).0 ≡ store.digest
  pub sorted : digests.sorted.0 ≡ s.digest

-- the stores in memory have the six numbers, the record and the digests of a moment
pub record IsOfMoment (s : EngineState) (moment : Moment) : Type 0 where
  pub shape : s.manifest.shape ≡ moment.geometry
  pub body : s.manifest.current ≡ moment.body
  pub digests : HasDigests s moment.digests

-- the fault of a copy whose examination failed
abbrev pub fault_of : {G F : Type 0} → OpenError F → BackupFault G F
fault_of open_error.NotFormatted = Damaged None
fault_of (open_error.Damaged place) = Damaged (Some place)
fault_of open_error.Crowded = Damaged None
fault_of (open_error.Device fault) = Device fault
fault_of open_error.NoMemory = NoMemory

-- ---- why there is no backup

module _ {V G F D T : Type 0} (view : ViewOf V G) (finds : FindsOf F) (disk : Ghosts D T) (backup : Backup V) (finder : F) where
  -- It was said that the backup is to end. The disk has another length than the store's device. A look at the store, or a call of the disk,
  -- gave this fault. The copy has this finding.
  abbrev pub IsCause : D → BackupFault G T → Type 0
  IsCause device Ended = finds.has_stopped finder
  IsCause device Length = size_of (disk.content device) ≢ device_size backup.moment.now.geometry
  IsCause device (Unread fault) = (at : ℕ) × (len : ℕ) × view.faulted backup.view.now fault at len
  IsCause device (Device fault) = GaveAny disk.gave device fault
  IsCause device NoMemory = Unit {0}
  IsCause device (Damaged (Some place)) = IsTrue (disk.content device).honest → IsFound (disk.content device).shown (finding.Damaged place)
  IsCause device (Damaged None) = Unit {0}

  -- what a call that writes to the disk of a backup says of it
  pub record WritesCopy {X : Type 0} (old new : D) (result : Result X (BackupFault G T)) : Type 0 where
    -- the disk is as long as before
    pub size : size_of (disk.content new) ≡ size_of (disk.content old)
    -- an error has its cause
    pub cause : IfErr result (IsCause new)
