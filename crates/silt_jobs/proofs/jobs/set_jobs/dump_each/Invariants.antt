use Rattle.silt_jobs.proofs.Common.{DumpsFirst}
use Rattle.silt_jobs.proofs.jobs.set_jobs.dump_each.Given as goal

-- the lines of the disks so far were written
abbrev pub invariant-loop-shard : goal.invariant-loop-shard
invariant-loop-shard g l = DumpsFirst g.D.Disk g.row.E.Denot l.disks l.shard (g.W.Write.contents l.initial.writer) (g.W.Write.contents l.writer)
