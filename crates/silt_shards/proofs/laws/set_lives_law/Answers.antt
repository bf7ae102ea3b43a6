use Rattle.silt_shards.proofs.ShardLives.{set_lives_law}
use Rattle.silt_shards.proofs.laws.set_lives_law.Goals as goal

pub returns : goal.returns
returns g c = set_lives_law g.D.Disk
