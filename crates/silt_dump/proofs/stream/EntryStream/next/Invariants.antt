use Rattle.silt_dump.proofs.Common.{length, steps_left}
use Rattle.silt_dump.proofs.Skipping.{HasSkipped}
use Rattle.silt_dump.proofs.stream.EntryStream.next.Given as goal

-- the keys that were passed so far have no value
abbrev pub invariant-loop-key : goal.invariant-loop-key
invariant-loop-key g l = HasSkipped (g.D.Disk.content l.disk) l.initial.self l.self (length l.value)

-- how many keys there are to pass
abbrev pub decreases-loop-key : goal.decreases-loop-key
decreases-loop-key g l = steps_left l.self
