use Rattle.silt_engine.proofs.Common.{◌≡◌, IsTrue, length, take, entries_of, DoesRows}
use Rattle.silt_engine.proofs.entries.do_entries.Given as goal

-- the buffer is as long as it came, and the entries that were read are done
abbrev pub invariant-loop-place : goal.invariant-loop-place
invariant-loop-place g l = record {
  long : length l.bytes ≡ length l.initial.bytes;
  done : IsTrue (g.D.Disk.content l.disk).honest → DoesRows (take l.place (entries_of (g.D.Disk.content l.disk) l.store)) l.initial.entries l.entries;
}
