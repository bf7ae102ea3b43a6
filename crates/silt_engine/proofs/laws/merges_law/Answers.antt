use Rattle.silt_engine.proofs.MergeStores.{merges}
use Rattle.silt_engine.proofs.laws.merges_law.Goals as goal

pub returns : goal.returns
returns c = merges
