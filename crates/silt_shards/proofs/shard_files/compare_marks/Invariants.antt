use Rattle.silt_shards.proofs.Openings.{EachSays}
use Rattle.silt_shards.proofs.shard_files.compare_marks.Given as goal

-- the disks so far are shards of the set of the first one
abbrev pub invariant-loop-shard : goal.invariant-loop-shard
invariant-loop-shard g l = EachSays g.D.Disk l.disks l.first.set l.shard
