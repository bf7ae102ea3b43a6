-- The disk of a copy.
use Rattle.std.specs.Prelude.{◌≡◌, ℕ}
use Rattle.silt_device.specs.Buffered.{buffered_gave}
use Rattle.silt_device.specs.File.{file_gave}
use Rattle.silt_disk.specs.declared.disk.Call.{Call}
use Rattle.silt_disk.specs.declared.disk.Call.TheVariants.{Read}
use Rattle.silt.specs.declared.copy_disk.CopyDisk.{CopyDisk}
use Rattle.silt.specs.declared.copy_disk.CopyFault.{CopyFault}
use Rattle.silt.specs.declared.copy_disk.CopyFault.TheVariants.{Ended, File}

-- A read was not made, since the server ends; or a call of the file gave the fault.
abbrev pub copy_gave : CopyDisk → CopyFault → Call → ℕ → ℕ → Type 0
copy_gave copy Ended call at len = call ≡ Read
copy_gave copy (File fault) call at len = buffered_gave file_gave copy.disk.inner fault call at len
