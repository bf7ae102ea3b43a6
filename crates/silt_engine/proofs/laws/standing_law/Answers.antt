use Rattle.silt_engine.proofs.Meaning.{meaning}
use Rattle.silt_engine.proofs.laws.standing_law.Goals as goal

pub returns : goal.returns
returns c = meaning
