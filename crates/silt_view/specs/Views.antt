-- What a store shows at one moment.
use Rattle.std.specs.Prelude.{◌≡◌, ◌<◌, ℕ, ◌+◌, false, IsTrue, List, length, slice_range}
use Rattle.silt_disk.specs.Layout.{device_size}
use Rattle.silt_disk.specs.declared.disk.Call.TheVariants.{Read}
use Rattle.silt_disk.specs.declared.disk.Disk.{Ghosts}
use Rattle.silt_manifest.specs.declared.body.Body.{Body}
use Rattle.silt_manifest.specs.declared.digests.Digests.{Digests}
use Rattle.silt_store_set.specs.CoreState.{CoreState}
use Rattle.silt_store_set.specs.Facts.{NamesDigests}
use Rattle.silt_view.specs.declared.viewed.ReadFault.{ReadFault}
use Rattle.silt_view.specs.declared.viewed.ReadFault.TheVariants.{Outside, Device}

module _ {D F : Type 0} (disk : Ghosts D F) (core : CoreState D) where
  -- Its record names these regions. If it is not failed, and its disk obeys the crash model, these are the digests of the stores that the
  -- record names, as the disk shows them.
  abbrev pub IsNamed : Body × Digests → Type 0
  IsNamed named = (named.0 ≡ core.body) × (core.failed ≡ false → NamesDigests (disk.content core.disk) core.shape core.body named.1)

  -- its disk gave these bytes from there on, which it shows, if it obeys the crash model
  abbrev pub GivesBytes : ℕ → List ℕ → Type 0
  GivesBytes at bytes = IsTrue (disk.content core.disk).honest → bytes ≡ slice_range (disk.content core.disk).shown at (at + length bytes)

  -- its disk gave this fault for a read of this range, or the range does not lie within the device
  abbrev pub GivesFault : ReadFault F → ℕ → ℕ → Type 0
  GivesFault (Device fault) at len = disk.gave core.disk fault Read at len
  GivesFault Outside at len = device_size core.shape < at + len

  -- its disk gave this fault for a read
  abbrev pub GivesFaultIn : ReadFault F → Type 0
  GivesFaultIn (Device fault) = (at : ℕ) × (len : ℕ) × disk.gave core.disk fault Read at len
  GivesFaultIn Outside = Unit {0}
