-- The sorted entries as they are read from a device.
use Rattle.std.specs.Prelude.{◌≡◌, ℕ, List, [], slice_get, Option, Some}
use Rattle.silt_disk.specs.Layout.{Shape}
use Rattle.silt_image.specs.Meaning.{said_entry_findings}
use Rattle.silt_manifest.specs.declared.digests.Digests.{Digests}
use Rattle.silt_sorted_store.specs.State.{sorted_rows}
use Rattle.silt_event.specs.declared.damage.Finding.{Finding}

-- nothing is found in the first `count` entries of this sorted region of an image, and the manifest's digest of them, if it has one, is
-- theirs
abbrev pub AreSoundEntries : Shape → Option Digests → List ℕ → ℕ → ℕ → Type 0
AreSoundEntries shape said image region count = said_entry_findings said (sorted_rows shape region count image) ≡ []

-- this is the first finding in the first `count` entries of this sorted region of an image, and then in the manifest's digest of them
pub record HasFirstEntry (shape : Shape) (said : Option Digests) (image : List ℕ) (region count : ℕ) (finding : Finding) : Type 0 where
  pub first : slice_get (said_entry_findings said (sorted_rows shape region count image)) 0 ≡ Some finding
