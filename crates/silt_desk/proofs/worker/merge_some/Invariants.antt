use Rattle.silt_desk.proofs.Common.{◌≡◌, false, may_merge}
use Rattle.silt_desk.specs.declared.worker.Turn.TheVariants as TurnOf
use Rattle.silt_desk.proofs.worker.merge_some.Given as goal

-- the seat keeps its number, and without work nothing is done
abbrev pub invariant-loop : goal.invariant-loop
invariant-loop g l = (l.seat.caller ≡ l.fn.seat.caller)
    × (may_merge l.fn.desk.core l.fn.least ≡ false → (l.turn ≡ TurnOf.Wait) × (l.desk ≡ l.fn.desk) × (l.seat ≡ l.fn.seat))
