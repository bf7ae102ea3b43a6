use Rattle.silt_engine.proofs.Common.{AreAllHashesNamed}
use Rattle.silt_engine.proofs.conversion.lowest_free_hash.Given as goal

-- the regions that were passed are named
abbrev pub invariant-loop-region : goal.invariant-loop-region
invariant-loop-region l = AreAllHashesNamed l.region l.body
