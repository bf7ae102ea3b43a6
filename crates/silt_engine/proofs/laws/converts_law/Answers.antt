use Rattle.silt_engine.proofs.ConvertStores.{converts}
use Rattle.silt_engine.proofs.laws.converts_law.Goals as goal

pub returns : goal.returns
returns c = converts
