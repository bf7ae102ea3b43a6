use Rattle.silt_wire.proofs.Http.{HandsOn}
use Rattle.silt_wire.proofs.http_guard.look_through.Given as goal

-- the bytes so far are handed on
abbrev pub invariant-loop-at : goal.invariant-loop-at
invariant-loop-at l = HandsOn l.fn.line l.bytes l.line l.at
