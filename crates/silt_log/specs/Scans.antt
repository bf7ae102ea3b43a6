-- Why a region could not be read.
use Rattle.std.specs.Prelude.{ℕ}
use Rattle.silt_log.specs.declared.scan.ScanError.{ScanError}
use Rattle.silt_log.specs.declared.scan.ScanError.TheVariants.{Damaged, Device, NoMemory}

-- the damaged row's number, or the fault of a read; out of memory says nothing about the region
abbrev pub IsScanRefused : {F : Type 0} → (ℕ → Type 0) → (F → Type 0) → ScanError F → Type 0
IsScanRefused IsDamaged WasGiven (Damaged place) = IsDamaged place
IsScanRefused IsDamaged WasGiven (Device fault) = WasGiven fault
IsScanRefused IsDamaged WasGiven NoMemory = Unit {0}
