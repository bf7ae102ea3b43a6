use Rattle.silt_engine.proofs.Common.{IsTrue, filter, rows_before, has_known_kind, DoesRows}
use Rattle.silt_engine.proofs.entries.do_hash_store.Given as goal

-- the slots that were read are done
abbrev pub invariant-loop-slot : goal.invariant-loop-slot
invariant-loop-slot g l =
    IsTrue (g.D.Disk.content l.disk).honest
    → DoesRows (filter has_known_kind (rows_before l.store.shape l.store.region (g.D.Disk.content l.disk).shown l.slot)) l.initial.entries l.entries
