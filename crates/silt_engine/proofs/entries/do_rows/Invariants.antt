use Rattle.silt_engine.proofs.Common.{IsTrue, take, all_rows, DoesRows}
use Rattle.silt_engine.proofs.entries.do_rows.Given as goal

-- the rows that were read are done
abbrev pub invariant-loop-place : goal.invariant-loop-place
invariant-loop-place g l = IsTrue (g.D.Disk.content l.disk).honest → DoesRows (take l.place (all_rows (g.D.Disk.content l.disk) l.store.log)) l.initial.entries l.entries
