use Rattle.silt_desk.proofs.Common.{◌≡◌}
use Rattle.silt_desk.proofs.worker.merger.Given as goal

-- the seat keeps its number
abbrev pub invariant-loop : goal.invariant-loop
invariant-loop g l = l.seat.caller ≡ l.fn.seat.caller
