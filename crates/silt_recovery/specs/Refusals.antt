-- Why a device is refused.
use Rattle.std.specs.Prelude.{◌≡◌, ℕ, List, Some}
use Rattle.silt_image.specs.Meaning.{image_verdict}
use Rattle.silt_event.specs.declared.damage.Finding.{Finding}
use Rattle.silt_event.specs.declared.damage.Finding.TheVariants as finding
use Rattle.silt_recovery.specs.declared.fault.OpenError.{OpenError}
use Rattle.silt_recovery.specs.declared.fault.OpenError.TheVariants.{NotFormatted, Damaged, Crowded, Device, NoMemory}

-- an image is refused for this finding, which is the verdict
abbrev pub IsFound : List ℕ → Finding → Type 0
IsFound image found = image_verdict image ≡ Some found

-- the refusal for a finding
abbrev pub refusal_of : {F : Type 0} → Finding → OpenError F
refusal_of finding.NotFormatted = NotFormatted
refusal_of (finding.Damaged place) = Damaged place
refusal_of finding.Crowded = Crowded

-- why an examination is refused: for a finding, by a fault of the disk, or out of memory
abbrev pub IsRefusedLook : {F : Type 0} → (Finding → Type 0) → (F → Type 0) → OpenError F → Type 0
IsRefusedLook Finds WasGiven NotFormatted = Finds finding.NotFormatted
IsRefusedLook Finds WasGiven (Damaged place) = Finds (finding.Damaged place)
IsRefusedLook Finds WasGiven Crowded = Finds finding.Crowded
IsRefusedLook Finds WasGiven (Device fault) = WasGiven fault
IsRefusedLook Finds WasGiven NoMemory = Unit {0}
