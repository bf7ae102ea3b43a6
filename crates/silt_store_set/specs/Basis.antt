-- What contracts remember of a store from the start of a call.
use Rattle.std.specs.Prelude.{Bool, true, false, List}
use Rattle.silt_disk.specs.Disk.{Content}
use Rattle.silt_event.specs.Commands.{Command, Map}
use Rattle.silt_image.specs.Meaning.{image_map}
use Rattle.silt_standing.specs.Standing.{waiting_commands}
use Rattle.silt_standing.specs.State.{EngineState}

-- the map of the device's bytes, and the commands of the rows that wait for a flush
pub record BasisState : Type 0 where
  pub base : Map
  pub waiting : List Command

-- the basis of a disk and of what memory holds of it
abbrev pub basis_of : Content → EngineState → BasisState
basis_of content stores = record { base = image_map content.shown; waiting = waiting_commands content stores }

-- a failed store keeps the basis of its failing call
abbrev pub basis_kept : Bool → BasisState → BasisState → BasisState
basis_kept true failing now = failing
basis_kept false failing now = now
