-- The manifest's next body: when it may become current, and what holds once it is.
use Rattle.std.specs.Prelude.{◌≡◌, ◌⊎◌, true, IsTrue, Some, None}
use Rattle.silt_disk.specs.Disk.{ChangesWithin, Content, LeavesOnly}
use Rattle.silt_disk.specs.Layout.{slot_at, sector}
use Rattle.silt_image.specs.Meaning.{AreDigestsOf, IsSound, rows_of}
use Rattle.silt_event.specs.Rows.{map_of_rows}
use Rattle.silt_image.specs.Stores.{Stores, stores_named}
use Rattle.silt_manifest.specs.Body.{is_well_formed}
use Rattle.silt_manifest.specs.Standing.{IsNext, ManifestState, IsCurrent, current_slot, spare_slot}
use Rattle.silt_manifest.specs.declared.body.Body.{Body}
use Rattle.silt_manifest.specs.declared.digests.Digests.{Digests}
use Rattle.silt_standing.specs.State.{EngineState}
use Rattle.silt_standing.specs.Standing.{base_map}
use Rattle.silt_standing.specs.Standing.{IsQuiet}

-- The record follows the current one, which is well formed. In each possible crash image it names these stores: nothing is found in them,
-- these digests are theirs, and their map is the base. No row waits, or the same log is active.
pub record MayBecomeCurrent (content : Content) (s : EngineState) (body : Body) (digests : Digests) : Type 0 where
  pub follows : is_well_formed s.manifest.shape (current_slot s.manifest) s.manifest.current ≡ true → IsNext s.manifest body
  pub stores : Stores
  pub has_shape : stores.shape ≡ s.manifest.shape
  pub has_body : stores.body ≡ body
  pub names : LeavesOnly content (λ image. stores_named s.manifest.shape body image ≡ stores)
  pub sound : IsTrue content.honest → IsSound stores
  pub said : IsTrue content.honest → AreDigestsOf (Some digests) stores
  pub same_map : IsTrue content.honest → map_of_rows (rows_of stores) ≡ base_map content s
  pub waiting : IsQuiet content s ⊎ (body.active ≡ s.manifest.current.active)

-- by this manifest the record with these digests is current in each possible crash image, and but for its slot the disk is as it was
pub record BecomesCurrent (old new : Content) (s : EngineState) (body : Body) (digests : Digests) (manifest : ManifestState) : Type 0 where
  pub current : IsCurrent manifest new
  pub has_shape : manifest.shape ≡ s.manifest.shape
  pub has_body : manifest.current ≡ body
  pub has_digests : manifest.digests ≡ Some digests
  pub idle : manifest.prepared ≡ None
  pub changes : ChangesWithin (slot_at (spare_slot s.manifest)) sector old new
