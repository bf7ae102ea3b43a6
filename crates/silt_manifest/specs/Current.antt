-- The current record of an image of a device.
use Rattle.std.specs.Prelude.{◌≡◌, ℕ, ◌+◌, ◌<◌, ◌≤◌, nat_lt, Bool, true, not, if◌then◌else◌, ◌&&◌, List, length, slice_index, slice_range, Option, Some, None, Result, Ok, Err, ◌*◌}
use Rattle.std.specs.Option.{is_some}
use Rattle.silt_disk.specs.Disk.{LiesOutside, Torn}
use Rattle.silt_disk.specs.Layout.{Shape, slot_at, sector}
use Rattle.silt_frame.specs.Commit.{is_open}
use Rattle.silt_disk.specs.Header.{header_of, version_of}
use Rattle.silt_disk.specs.declared.header.Version.{Version}
use Rattle.silt_disk.specs.declared.header.Version.TheVariants.{One, Two}
use Rattle.silt_manifest.specs.Body.{is_well_formed}
use Rattle.silt_manifest.specs.Digests.{record_of, slot_len}
use Rattle.silt_manifest.specs.declared.digests.Digests.{Digests}
use Rattle.silt_manifest.specs.declared.slot.SlotRecord.{SlotRecord}
use Rattle.silt_manifest.specs.declared.slot.Damage.{Damage}
use Rattle.silt_manifest.specs.declared.slot.Damage.TheVariants.{Slot, NoSlot}

-- the meaningful bytes of a slot: its commit byte, its body, and the digests after it
abbrev pub slot_of : List ℕ → ℕ → List ℕ
slot_of image slot = slice_range image (slot_at slot) (slot_at slot + slot_len)

-- whether a slot is open
abbrev pub is_slot_open : List ℕ → ℕ → Bool
is_slot_open image slot = is_open (slice_index (slot_of image slot) 0)

-- the record after a commit byte, if the commit byte is open; a closed slot has no record
unfoldable pub record_behind : List ℕ → Option SlotRecord
record_behind slot = if is_open (slice_index slot 0) then Some (record_of slot) else None

-- the record of a slot of an image, if the slot is open
abbrev pub open_record : List ℕ → ℕ → Option SlotRecord
open_record image slot = record_behind (slot_of image slot)

-- a record is allowed on a device of this version: version 2 requires digests
abbrev pub has_due_digests : Version → Option Digests → Bool
has_due_digests One digests = true
has_due_digests Two digests = is_some digests

-- a slot is closed, or its record has a well-formed body and the digests that the version requires
abbrev pub is_sound_record : Shape → Version → ℕ → Option SlotRecord → Bool
is_sound_record s version slot None = true
is_sound_record s version slot (Some found) = has_due_digests version found.digests && is_well_formed s slot found.body

-- of the open slots, the record of greater generation
abbrev pub greater_record : Option SlotRecord → Option SlotRecord → Result SlotRecord Damage
greater_record None None = Err NoSlot
greater_record None (Some second) = Ok second
greater_record (Some first) None = Ok first
greater_record (Some first) (Some second) = Ok (if nat_lt first.body.generation second.body.generation then second else first)

-- the first finding, or else the current record, from what the two slots hold
unfoldable pub record_found : Shape → Version → Option SlotRecord → Option SlotRecord → Result SlotRecord Damage
record_found s version first second =
    if not (is_sound_record s version 0 first) then Err (Slot 0)
    else if not (is_sound_record s version 1 second) then Err (Slot 1)
    else greater_record first second

-- the first finding, or else the current record, of an image
abbrev pub manifest_found : Shape → List ℕ → Result SlotRecord Damage
manifest_found s image = record_found s (version_of (header_of image)) (open_record image 0) (open_record image 1)

-- the record, if one was found
abbrev pub where_found : Result SlotRecord Damage → Option SlotRecord
where_found (Ok found) = Some found
where_found (Err damage) = None

-- The current record of an image: of the open slots, all sound, the one of greater generation. It depends only on the version in the
-- header and the records of the open slots.
abbrev pub current_manifest : Shape → List ℕ → Option SlotRecord
current_manifest s image = where_found (manifest_found s image)

-- a slot of an image holds this, and it is sound
pub record HasSlot (s : Shape) (version : Version) (slot : ℕ) (found : Option SlotRecord) (image : List ℕ) : Type 0 where
  pub held : open_record image slot ≡ found
  pub sound : is_sound_record s version slot found ≡ true

-- a closed slot does not matter: any change in a slot that is closed before and after
abbrev pub ClosedSlotLaw : Type 0
ClosedSlotLaw =
    (s : Shape) (slot : ℕ) (before after : List ℕ) → slot < 2 → slot_at 1 + sector ≤ length before → Torn (slot_at slot) sector before after
    → open_record before slot ≡ None → open_record after slot ≡ None → manifest_found s after ≡ manifest_found s before

-- the record of a slot does not depend on the other regions: any change before or after the slots
abbrev pub OtherRecordsLaw : Type 0
OtherRecordsLaw =
    (slot at count : ℕ) (before after : List ℕ) → slot < 2 → slot_at 1 + sector ≤ length before → LiesOutside (slot_at 0) (2 * sector) at count
    → Torn at count before after → open_record after slot ≡ open_record before slot

-- nor does the current record, if the header has the same version
abbrev pub OtherRegionsLaw : Type 0
OtherRegionsLaw =
    (s : Shape) (at count : ℕ) (before after : List ℕ) → slot_at 1 + sector ≤ length before → LiesOutside (slot_at 0) (2 * sector) at count
    → Torn at count before after → version_of (header_of after) ≡ version_of (header_of before) → manifest_found s after ≡ manifest_found s before
