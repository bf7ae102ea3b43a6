use Rattle.silt_shards.proofs.Joins.{joined_all}
use Rattle.silt_shards.proofs.laws.joined_law.Goals as goal

pub returns : goal.returns
returns c = joined_all
