-- A manifest in memory, and what the images of a disk have of it.
use Rattle.std.specs.Prelude.{◌≡◌, ◌⊎◌, ℕ, ◌+◌, ◌%◌, Bool, true, false, not, nat_lt, if◌then◌else◌, IsTrue, List, [], ◌∷◌, Option, Some, None, Ok, slice_range}
use Rattle.std.specs.Option.{ForSome, is_some}
use Rattle.silt_disk.specs.Disk.{Content, LeavesOnly, splice}
use Rattle.silt_disk.specs.Layout.{Shape, InLimits, slot_at}
use Rattle.silt_frame.specs.Commit.{commit_open}
use Rattle.silt_manifest.specs.Body.{FitsSlot, first_body, is_well_formed}
use Rattle.silt_manifest.specs.Digests.{FitsDigests, long_record, record_bytes, slot_len}
use Rattle.silt_manifest.specs.Current.{is_slot_open, manifest_found, open_record, current_manifest, slot_of}
use Rattle.silt_manifest.specs.declared.body.Body.{Body}
use Rattle.silt_manifest.specs.declared.digests.Digests.{Digests}
use Rattle.silt_manifest.specs.declared.slot.SlotRecord.{SlotRecord}

-- The manifest: the six numbers, the current body and the digests after it, if there are any; whether the commit byte of the other slot is
-- closed, and the next record once it is written behind that commit byte.
pub record ManifestState : Type 0 where
  pub shape : Shape
  pub current : Body
  pub digests : Option Digests
  pub spare_closed : Bool
  pub prepared : Option SlotRecord

-- the record of the current slot
abbrev pub current_record : ManifestState → SlotRecord
current_record m = record { body = m.current; digests = m.digests }

-- the manifest with this current record
abbrev pub with_current : Shape → SlotRecord → Bool → ManifestState
with_current s found spare_closed = record { shape = s; current = found.body; digests = found.digests; spare_closed = spare_closed; prepared = None }

-- the manifest of two slots, each with a sound record or none
abbrev pub manifest_of : Shape → Option SlotRecord → Option SlotRecord → Option ManifestState
manifest_of s None None = None
manifest_of s None (Some second) = Some (with_current s second true)
manifest_of s (Some first) None = Some (with_current s first true)
manifest_of s (Some first) (Some second) =
    Some (if nat_lt first.body.generation second.body.generation then with_current s second false else with_current s first false)

-- the slot of the current body
abbrev pub current_slot : ManifestState → ℕ
current_slot m = m.current.generation % 2

-- the other slot, the spare one
abbrev pub spare_slot : ManifestState → ℕ
spare_slot m = (m.current.generation + 1) % 2

-- The place of the zero that begins a write of the next body: the commit byte, or, if that is closed already, the last place of the slot,
-- which nothing reads.
abbrev pub closing_place : ManifestState → ℕ
closing_place m = if m.spare_closed then slot_at (spare_slot m) + 4095 else slot_at (spare_slot m)

-- what is shown once the next record is written: a zero at the closing place, and the record's bytes after the commit byte
abbrev pub with_next : ManifestState → Body → Digests → List ℕ → List ℕ
with_next m next digests image = splice (slot_at (spare_slot m) + 1) (record_bytes next digests) (splice (closing_place m) (0 ∷ []) image)

-- exactly the next record is written, with the zero before it
pub record WritesNext (m : ManifestState) (next : Body) (digests : Digests) (old new : Content) : Type 0 where
  pub honest : new.honest ≡ old.honest
  pub shown : IsTrue old.honest → new.shown ≡ with_next m next digests old.shown

-- a body may follow the current one: it has the next generation and is well formed
pub record IsNext (m : ManifestState) (next : Body) : Type 0 where
  pub generation : next.generation ≡ m.current.generation + 1
  pub sound : is_well_formed m.shape (spare_slot m) next ≡ true

-- a record may follow the current one: its body may, and it has digests
pub record IsNextRecord (m : ManifestState) (next : SlotRecord) : Type 0 where
  pub body : IsNext m next.body
  pub digests : is_some next.digests ≡ true

-- the bodies are well formed
pub record HasSoundBodies (m : ManifestState) : Type 0 where
  pub current : is_well_formed m.shape (current_slot m) m.current ≡ true
  pub prepared : ForSome m.prepared (IsNextRecord m)

-- in an image the record of the manifest is current
abbrev pub RecordIsCurrent : ManifestState → List ℕ → Type 0
RecordIsCurrent m image = current_manifest m.shape image ≡ Some (current_record m)

-- in an image the record is current and lies in its slot, and the other slot's commit byte is as the manifest has it
pub record IsCurrentIn (m : ManifestState) (image : List ℕ) : Type 0 where
  pub current : RecordIsCurrent m image
  pub stands : open_record image (current_slot m) ≡ Some (current_record m)
  pub spare : is_slot_open image (spare_slot m) ≡ not m.spare_closed

-- the same in each possible crash image
abbrev pub IsCurrent : ManifestState → Content → Type 0
IsCurrent m content = LeavesOnly content (IsCurrentIn m)

-- in an image the record is current as before, and the other slot has the next one's bytes after a closed commit byte
pub record IsReady (m : ManifestState) (next : Body) (digests : Digests) (image : List ℕ) : Type 0 where
  pub current : RecordIsCurrent m image
  pub stands : open_record image (current_slot m) ≡ Some (current_record m)
  pub spare : is_slot_open image (spare_slot m) ≡ false
  pub bytes : slice_range image (slot_at (spare_slot m) + 1) (slot_at (spare_slot m) + slot_len) ≡ record_bytes next digests

-- the next record is written, and in each possible crash image its commit byte can be opened
pub record IsPrepared (m : ManifestState) (next : Body) (digests : Digests) (content : Content) : Type 0 where
  pub is : m.prepared ≡ Some (long_record next digests)
  pub closed : m.spare_closed ≡ true
  pub follows : IsNext m next
  pub fits : FitsSlot next
  pub fits_digests : FitsDigests digests
  pub leaves : LeavesOnly content (IsReady m next digests)

-- the same for some next record
pub record CanCommit (m : ManifestState) (content : Content) : Type 0 where
  pub next : Body
  pub digests : Digests
  pub prepared : IsPrepared m next digests content

-- in an image the old record or the prepared one is current
abbrev pub OldOrNewIsCurrent : ManifestState → List ℕ → Type 0
OldOrNewIsCurrent m image = RecordIsCurrent m image ⊎ (current_manifest m.shape image ≡ m.prepared)

-- in an image slot 0 has the body of generation 0 with these digests and an open commit byte, and slot 1 is closed
pub record IsFirst (digests : Digests) (image : List ℕ) : Type 0 where
  pub first : open_record image 0 ≡ Some (long_record first_body digests)
  pub second : open_record image 1 ≡ None
  pub bytes : slot_of image 0 ≡ commit_open ∷ record_bytes first_body digests

-- such a record is current, in any store's geometry, whatever the header
abbrev pub FirstIsCurrentLaw : Type 0
FirstIsCurrentLaw =
    (s : Shape) (digests : Digests) (image : List ℕ) → InLimits s → open_record image 0 ≡ Some (long_record first_body digests) → open_record image 1 ≡ None
    → manifest_found s image ≡ Ok (long_record first_body digests)
