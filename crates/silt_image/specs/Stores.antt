-- The stores that an image names, with their rows.
use Rattle.std.specs.Prelude.{ℕ, ◌==◌, nat_le, ◌&&◌, not, if◌then◌else◌, List, ◌∷◌, length, map, Option, None, Result, Ok, Err}
use Rattle.silt_disk.specs.Layout.{Shape, device_size}
use Rattle.silt_frame.specs.Rows.{StoredRow}
use Rattle.silt_manifest.specs.Current.{manifest_found}
use Rattle.silt_manifest.specs.declared.body.Body.{Body}
use Rattle.silt_manifest.specs.declared.digests.Digests.{Digests}
use Rattle.silt_manifest.specs.declared.slot.SlotRecord.{SlotRecord}
use Rattle.silt_manifest.specs.declared.slot.Damage.{Damage}
use Rattle.silt_manifest.specs.declared.slot.Damage.TheVariants as damage
use Rattle.silt_disk.specs.Header.{header_of, header_shape, is_formatted, is_in_limits, header_len, shape_of}
use Rattle.silt_event.specs.declared.damage.Finding.{Finding}
use Rattle.silt_event.specs.declared.damage.Finding.TheVariants.{NotFormatted, Damaged}
use Rattle.silt_event.specs.declared.place.Place.TheVariants.{Header, Length, Slot, NoSlot}
use Rattle.silt_log.specs.Parts.{Part, log_part}
use Rattle.silt_hash_store.specs.Slots.{hash_part}
use Rattle.silt_sorted_store.specs.State.{sorted_rows}

-- All that an image names: the active log and then the frozen ones, from the newest; the hash stores, from the newest; and the
-- entries of the sorted store, as puts.
pub record Stores : Type 0 where
  pub shape : Shape
  pub body : Body
  pub logs : List Part
  pub hashes : List Part
  pub entries : List StoredRow

-- the stores that a manifest body names, in an image
unfoldable pub stores_named : Shape → Body → List ℕ → Stores
stores_named shape body image = record {
  shape = shape;
  body = body;
  logs = map (log_part shape image) (body.active ∷ body.frozen);
  hashes = map (hash_part shape image) body.hashed;
  entries = sorted_rows shape body.sorted body.sorted_count image;
}

-- the six numbers of a device of this length with this header, or the finding
unfoldable pub shape_found : ℕ → List ℕ → Result Shape Finding
shape_found len header =
    if not (nat_le header_len len && is_formatted header) then Err NotFormatted
    else if not (is_in_limits (header_shape header)) then Err (Damaged Header)
    else if not (len == device_size (header_shape header)) then Err (Damaged Length)
    else Ok (header_shape header)

-- the finding of a damaged manifest
abbrev pub damage_finding : Damage → Finding
damage_finding (damage.Slot slot) = Damaged (Slot slot)
damage_finding damage.NoSlot = Damaged NoSlot

-- the stores that the current body names, or the finding
abbrev pub stores_of_current : Shape → List ℕ → Result SlotRecord Damage → Result Stores Finding
stores_of_current shape image (Ok found) = Ok (stores_named shape found.body image)
stores_of_current shape image (Err damaged) = Err (damage_finding damaged)

-- the stores of an image of this shape, or the finding in its shape or its manifest
abbrev pub stores_shaped : List ℕ → Result Shape Finding → Result Stores Finding
stores_shaped image (Ok shape) = stores_of_current shape image (manifest_found shape image)
stores_shaped image (Err finding) = Err finding

-- The stores of an image, or the first finding in its header or its manifest. All meaning of an image is defined by this.
unfoldable pub image_stores : List ℕ → Result Stores Finding
image_stores image = stores_shaped image (shape_found (length image) (header_of image))

-- the digests of a record, if one was found
abbrev pub digests_found : Result SlotRecord Damage → Option Digests
digests_found (Ok found) = found.digests
digests_found (Err damaged) = None

-- The digests in the current slot of an image, if it has any.
unfoldable pub image_digests : List ℕ → Option Digests
image_digests image = digests_found (manifest_found (shape_of image) image)
