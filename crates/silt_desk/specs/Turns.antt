-- What the result of a step asks of a worker.
use Rattle.std.specs.Prelude.{Result, Ok, Err}
use Rattle.silt_event.specs.declared.progress.Progress.{Progress}
use Rattle.silt_event.specs.declared.progress.Progress.TheVariants.{Idle, Waiting, Moved, Finished}
use Rattle.silt_event.specs.declared.refusal.Refusal.{Refusal}
use Rattle.silt_event.specs.declared.refusal.Refusal.TheVariants as refusal
use Rattle.silt_desk.specs.declared.worker.Turn.{Turn}
use Rattle.silt_desk.specs.declared.worker.Turn.TheVariants.{Damaged, Failed, GoOn, Pause, WakeOther, Wait}

-- A worker goes on if work was done, wakes the other one if that work is finished, and waits if there is none. It tries a refused step again
-- after a pause. But it waits if the store has failed or a part of the device is damaged, and then people hear of it first.
abbrev pub turn_of : {F : Type 0} → Result Progress (Refusal F) → Turn
turn_of (Ok Moved) = GoOn
turn_of (Ok Finished) = WakeOther
turn_of (Ok Idle) = Wait
turn_of (Ok Waiting) = Wait
turn_of (Err (refusal.Damaged place)) = Damaged place
turn_of (Err refusal.Failed) = Failed
turn_of (Err other) = Pause
