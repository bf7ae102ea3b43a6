use Rattle.silt_shards.proofs.Marks.{mark_law}
use Rattle.silt_shards.proofs.laws.mark_law.Goals as goal

pub returns : goal.returns
returns c = mark_law
