use Rattle.silt_engine.proofs.Common.{AreAllNamed}
use Rattle.silt_engine.proofs.next_log.lowest_free.Given as goal

-- the regions that were passed are named
abbrev pub invariant-loop-region : goal.invariant-loop-region
invariant-loop-region l = AreAllNamed l.region l.body
