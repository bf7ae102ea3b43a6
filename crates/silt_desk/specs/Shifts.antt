-- Workers that work in shifts.
use Rattle.std.specs.Prelude.{◌≡◌, ◌⊎◌, Option, Some, None, false, cond}
use Rattle.silt_desk.specs.declared.shift_gate.Shift.{Shift}
use Rattle.silt_desk.specs.declared.worker.Spot.{Spot}
use Rattle.silt_desk.specs.declared.worker.Spot.TheVariants.{Converter, Merger, Writer}

-- the other one of the two workers
abbrev pub other_worker : Spot → Option Spot
other_worker Converter = Some Merger
other_worker Merger = Some Converter
other_worker Writer = None

-- nobody has the shift, or this worker has it
abbrev pub MayWork : Spot → Shift → Type 0
MayWork worker shift = (shift.worker ≡ None) ⊎ (shift.worker ≡ Some worker)

-- the other worker has the next shift if it waits for it, and else nobody has it
pub record EndsShift (worker : Spot) (old new : Shift) : Type 0 where
  pub next : new.worker ≡ cond old.is_awaited (other_worker worker) None
  pub passes : new.passes ≡ 0
  pub awaited : new.is_awaited ≡ false
