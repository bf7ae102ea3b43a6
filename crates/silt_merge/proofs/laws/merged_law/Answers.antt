use Rattle.silt_merge.proofs.Newest.{merged_law}
use Rattle.silt_merge.proofs.laws.merged_law.Goals as goal

pub returns : goal.returns
returns c = merged_law
