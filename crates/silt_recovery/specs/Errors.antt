-- Errors as refusals.
use Rattle.silt_event.specs.declared.refusal.Refusal.{Refusal}
use Rattle.silt_event.specs.declared.refusal.Refusal.TheVariants.{NotFormatted, BadGeometry, Damaged, Crowded, Device, NoMemory}
use Rattle.silt_recovery.specs.declared.fault.FormatError.{FormatError}
use Rattle.silt_recovery.specs.declared.fault.FormatError.TheVariants as format_error
use Rattle.silt_recovery.specs.declared.fault.OpenError.{OpenError}
use Rattle.silt_recovery.specs.declared.fault.OpenError.TheVariants as open_error

-- the refusal for an error of a formatting
abbrev pub refusal_of_formatting : {F : Type 0} → FormatError F → Refusal F
refusal_of_formatting format_error.BadGeometry = BadGeometry
refusal_of_formatting (format_error.Device fault) = Device fault
refusal_of_formatting format_error.NoMemory = NoMemory

-- the refusal for an error of an opening or a check
abbrev pub refusal_of_opening : {F : Type 0} → OpenError F → Refusal F
refusal_of_opening open_error.NotFormatted = NotFormatted
refusal_of_opening (open_error.Damaged place) = Damaged place
refusal_of_opening open_error.Crowded = Crowded
refusal_of_opening (open_error.Device fault) = Device fault
refusal_of_opening open_error.NoMemory = NoMemory
