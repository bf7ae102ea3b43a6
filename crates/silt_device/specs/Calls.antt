-- How many calls a disk was asked for.
use Rattle.silt_device.specs.declared.calls.Calls.{Calls}

-- none
abbrev pub no_calls : Calls
no_calls = record { writes = 0; syncs = 0; failures = 0 }
