use Rattle.silt_shards.proofs.ShardLives.{shard_runs_law}
use Rattle.silt_shards.proofs.laws.shard_runs_law.Goals as goal

pub returns : goal.returns
returns g c = shard_runs_law g.D.Disk
