-- Why a slot or a manifest could not be read, and the fault of a failed write or sync.
use Rattle.std.specs.Prelude.{◌≡◌, ℕ, false, List, Err}
use Rattle.silt_disk.specs.Disk.{Content, Shows}
use Rattle.silt_disk.specs.Layout.{Shape}
use Rattle.silt_disk.specs.declared.header.Version.{Version}
use Rattle.silt_manifest.specs.Current.{open_record, is_sound_record, manifest_found}
use Rattle.silt_manifest.specs.declared.slot.Damage.{Damage}
use Rattle.silt_manifest.specs.declared.slot.Damage.TheVariants.{Slot}
use Rattle.silt_manifest.specs.declared.slot.ReadFault.{ReadFault}
use Rattle.silt_manifest.specs.declared.slot.ReadFault.TheVariants.{Damaged, Device}

-- a slot of an image is open, and its record is not sound
pub record IsUnsound (s : Shape) (version : Version) (slot : ℕ) (damage : Damage) (image : List ℕ) : Type 0 where
  pub place : damage ≡ Slot slot
  pub unsound : is_sound_record s version slot (open_record image slot) ≡ false

-- why a slot was refused: its content, or a fault of a read
abbrev pub IsSlotRefused : {F : Type 0} → Content → Shape → Version → (F → Type 0) → ℕ → ReadFault F → Type 0
IsSlotRefused content s version WasGiven slot (Damaged damage) = Shows content (IsUnsound s version slot damage)
IsSlotRefused content s version WasGiven slot (Device fault) = WasGiven fault

-- the first finding in an image is this damage
pub record IsDamaged (s : Shape) (damage : Damage) (image : List ℕ) : Type 0 where
  pub found : manifest_found s image ≡ Err damage

-- why no manifest was read: the content, or a fault of a read
abbrev pub IsNotRead : {F : Type 0} → Content → Shape → (F → Type 0) → ReadFault F → Type 0
IsNotRead content s WasGiven (Damaged damage) = Shows content (IsDamaged s damage)
IsNotRead content s WasGiven (Device fault) = WasGiven fault
