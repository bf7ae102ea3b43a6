use Rattle.silt_merge.proofs.Elsewhere.{merged_elsewhere}
use Rattle.silt_merge.proofs.laws.merged_elsewhere_law.Goals as goal

pub returns : goal.returns
returns c = merged_elsewhere
