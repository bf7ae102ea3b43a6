use Rattle.silt_desk.proofs.Common.{◌≡◌, false, wants_convert}
use Rattle.silt_desk.specs.declared.worker.Turn.TheVariants as TurnOf
use Rattle.silt_desk.proofs.worker.convert_some.Given as goal

-- the seat keeps its number, and without work nothing is done
abbrev pub invariant-loop : goal.invariant-loop
invariant-loop g l = (l.seat.caller ≡ l.fn.seat.caller)
    × (wants_convert l.fn.desk.core ≡ false → (l.turn ≡ TurnOf.Wait) × (l.desk ≡ l.fn.desk) × (l.seat ≡ l.fn.seat))
