use Rattle.silt_engine.proofs.Common.{IsTrue, drop, map, oldest_first, DoesRows}
use Rattle.silt_engine.proofs.Lookups.{rows_in}
use Rattle.silt_engine.proofs.engine.Engine.entries.Given as goal

-- the rows of the older logs are done
abbrev pub invariant-loop-index : goal.invariant-loop-index
invariant-loop-index g l =
    IsTrue (g.D.Disk.content l.disk).honest
    → DoesRows (oldest_first (map (rows_in (g.D.Disk.content l.disk)) (drop l.index l.self-inside.frozen.items))) l.initial.entries l.entries
