use Rattle.silt_merge.proofs.Counting.{merged_count}
use Rattle.silt_merge.proofs.laws.merged_count_law.Goals as goal

pub returns : goal.returns
returns c = merged_count
