-- The list of findings in a device.
use Rattle.std.specs.Prelude.{if◌then◌else◌, List, ◌∷◌, Bool, []}
use Rattle.silt_event.specs.declared.damage.Finding.{Finding}

-- this finding, if the test succeeds
abbrev pub finding_if : Bool → Finding → List Finding
finding_if test finding = if test then finding ∷ [] else []
