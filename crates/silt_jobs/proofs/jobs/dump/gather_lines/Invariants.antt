use Rattle.silt_jobs.proofs.Common.{string_bytes, vec_len}
use Rattle.silt_dump.specs.Stream.{steps_left}
use Rattle.silt_jobs.proofs.Dumps.{HasGathered}
use Rattle.silt_jobs.proofs.jobs.dump.gather_lines.Given as goal

-- the lines of the entries that the stream has given are written and gathered
abbrev pub invariant-loop-key : goal.invariant-loop-key
invariant-loop-key g l = HasGathered (g.D.Disk.content l.disk) l.stream (vec_len l.value) (g.W.Write.contents l.initial.writer) (g.W.Write.contents l.writer) (string_bytes l.lines)

-- how many keys there are to pass
abbrev pub decreases-loop-key : goal.decreases-loop-key
decreases-loop-key g l = steps_left l.stream
