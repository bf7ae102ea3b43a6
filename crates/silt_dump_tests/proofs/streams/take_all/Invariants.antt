use Rattle.std.proofs.Common.{◌≡◌}
use Rattle.silt_dump.specs.Stream.{Streams, steps_left, value_len_of}
use Rattle.silt_dump_tests.proofs.streams.take_all.Given as goal

-- the stream matches the disk, and its values have two bytes
abbrev pub invariant-loop-key : goal.invariant-loop-key
invariant-loop-key g l = Streams (g.D.Disk.content l.disk) l.stream × (value_len_of l.stream ≡ 2)

-- how many keys there are to pass
abbrev pub decreases-loop-key : goal.decreases-loop-key
decreases-loop-key g l = steps_left l.stream
