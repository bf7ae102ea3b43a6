-- Hash stores as they are read from a device.
use Rattle.std.specs.Prelude.{◌≡◌, ℕ, IsTrue, List, ◌∷◌, ◌++◌, All, length, map, sum_by, slice_get, Option, Some}
use Rattle.silt_disk.specs.Disk.{Content}
use Rattle.silt_disk.specs.Layout.{Shape}
use Rattle.silt_hash_store.specs.State.{HashState, IsHashStore}
use Rattle.silt_image.specs.Laws.{AreSoundParts}
use Rattle.silt_image.specs.Meaning.{digest_findings, part_digest, said_hash_findings}
use Rattle.silt_manifest.specs.declared.digests.Digests.{Digests}
use Rattle.silt_log.specs.Parts.{known_rows}
use Rattle.silt_frame.specs.Rows.{put_count}
use Rattle.silt_hash_store.specs.Findings.{hash_findings}
use Rattle.silt_hash_store.specs.Slots.{hash_part}
use Rattle.silt_event.specs.declared.damage.Finding.{Finding}
use Rattle.silt_event.specs.declared.place.Place.TheVariants.{HashDigest}
use Rattle.silt_standing.specs.State.{IsHashOf, hash_region_of}

-- what is found in a hash store of an image: in its slots, and then in the manifest's digest of it
abbrev pub region_findings : Shape → Option (List ℕ) → List ℕ → ℕ → List Finding
region_findings shape said image region =
    hash_findings shape (hash_part shape image region) ++ digest_findings (HashDigest region) said (part_digest (hash_part shape image region))

-- this is the first finding in a hash store of an image and in the manifest's digest of it
pub record HasFirstInRegion (shape : Shape) (said : Option (List ℕ)) (image : List ℕ) (region : ℕ) (finding : Finding) : Type 0 where
  pub first : slice_get (region_findings shape said image region) 0 ≡ Some finding

-- nothing is found in these hash stores of an image, and the manifest's digests are theirs
abbrev pub AreSoundHashes : Shape → Option Digests → List ℕ → List ℕ → Type 0
AreSoundHashes shape said image regions = AreSoundParts shape said (map (hash_part shape image) regions)

-- how many rows of a hash store of an image are puts
abbrev pub region_puts : Shape → List ℕ → ℕ → ℕ
region_puts shape image region = put_count (known_rows (hash_part shape image region))

-- how many rows of known kinds a hash store of an image has
abbrev pub region_rows : Shape → List ℕ → ℕ → ℕ
region_rows shape image region = length (known_rows (hash_part shape image region))

-- this is the first finding in these hash stores of an image and in the manifest's digests of them, in their order
pub record HasFirstSlot (shape : Shape) (said : Option Digests) (image regions : List ℕ) (finding : Finding) : Type 0 where
  pub before : List ℕ
  pub region : ℕ
  pub after : List ℕ
  pub all : regions ≡ before ++ region ∷ after
  pub sound : AreSoundHashes shape said image before
  pub first : slice_get (said_hash_findings shape said (length before, hash_part shape image region)) 0 ≡ Some finding

-- a hash store of this shape, as the device has it
pub record IsReadHash (content : Content) (shape : Shape) (store : HashState) : Type 0 where
  pub hash : IsHashOf shape store
  pub stands : IsHashStore content store

-- these are the hash stores of these regions as they were read; nothing is found in them and in the manifest's digests of them, this many
-- of their rows are of known kinds, and this many of these are puts
pub record AreReadHashes (content : Content) (shape : Shape) (said : Option Digests) (regions : List ℕ) (stores : List HashState) (puts rows : ℕ) : Type 0 where
  pub has_regions : map hash_region_of stores ≡ regions
  pub each : All (IsReadHash content shape) stores
  pub sound : IsTrue content.honest → AreSoundHashes shape said content.shown regions
  pub charged : IsTrue content.honest → puts ≡ sum_by (region_puts shape content.shown) regions
  pub counted : IsTrue content.honest → rows ≡ sum_by (region_rows shape content.shown) regions
