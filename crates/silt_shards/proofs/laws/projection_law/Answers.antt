use Rattle.silt_shards.proofs.Projections.{projected}
use Rattle.silt_shards.proofs.laws.projection_law.Goals as goal

pub returns : goal.returns
returns g c = projected g.A.Answerer.answers
