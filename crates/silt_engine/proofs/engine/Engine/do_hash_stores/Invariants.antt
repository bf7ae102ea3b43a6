use Rattle.silt_engine.proofs.Common.{IsTrue, drop, map, oldest_first, DoesRows}
use Rattle.silt_engine.proofs.Lookups.{known_in}
use Rattle.silt_engine.proofs.engine.Engine.do_hash_stores.Given as goal

-- the rows of the older stores are done
abbrev pub invariant-loop-index : goal.invariant-loop-index
invariant-loop-index g l =
    IsTrue (g.D.Disk.content l.disk).honest
    → DoesRows (oldest_first (map (known_in (g.D.Disk.content l.disk)) (drop l.index l.self-inside.hashes.items))) l.initial.entries l.entries
