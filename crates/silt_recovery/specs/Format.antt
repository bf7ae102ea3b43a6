-- What formatting a device leaves.
use Rattle.std.specs.Prelude.{◌≡◌, ◌≢◌, ◌⊎◌, ℕ, ◌∷◌, List, Some, get_or}
use Rattle.std.specs.FinMap.{empty}
use Rattle.silt_disk.specs.Disk.{Content, Left, Torn, size}
use Rattle.silt_disk.specs.Layout.{Shape, device_size}
use Rattle.silt_frame.specs.Commit.{commit_open}
use Rattle.silt_disk.specs.Header.{header_bytes, header_of}
use Rattle.silt_image.specs.Meaning.{StandsFor, image_verdict}
use Rattle.silt_event.specs.declared.damage.Finding.TheVariants.{NotFormatted}
use Rattle.silt_recovery.specs.declared.fault.FormatError.{FormatError}
use Rattle.silt_recovery.specs.declared.fault.FormatError.TheVariants.{BadGeometry, Device, NoMemory}

-- Why a device was not formatted: it has another length, or memory ran out, and then it is as it was; or the disk gave a fault.
abbrev pub FormatCause : {D F : Type 0} → (D → Content) → (D → F → Type 0) → Shape → D → D → FormatError F → Type 0
FormatCause content gave shape old new BadGeometry = (size (content old) ≢ device_size shape) × (new ≡ old)
FormatCause content gave shape old new NoMemory = (size (content old) ≡ device_size shape) × (new ≡ old)
FormatCause content gave shape old new (Device fault) = (size (content old) ≡ device_size shape) × gave new fault

-- the header's commit byte is closed
abbrev pub IsCommitClosed : List ℕ → Type 0
IsCommitClosed image = get_or image 0 0 ≢ commit_open

-- the header's commit byte is closed, or the header of this shape is behind it
abbrev pub HasHeaderOrNone : Shape → List ℕ → Type 0
HasHeaderOrNone shape image = IsCommitClosed image ⊎ (header_of image ≡ commit_open ∷ header_bytes shape)

-- an image that was possible before, but for the header's commit byte
pub record IsLeftButForCommitByte (old : Content) (image : List ℕ) : Type 0 where
  pub before : List ℕ
  pub left : Left old before
  pub torn : Torn 0 1 before image

-- a possible crash image of a formatting: one that was possible before, but for the header's commit byte; or no store; or the empty one
abbrev pub IsHalfFormatted : Content → Shape → List ℕ → Type 0
IsHalfFormatted old shape image = IsLeftButForCommitByte old image ⊎ ((image_verdict image ≡ Some NotFormatted) ⊎ StandsFor shape empty image)
