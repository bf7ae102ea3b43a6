use Rattle.silt_progress.proofs.Merges.{merge_length}
use Rattle.silt_progress.proofs.laws.merge_length_law.Goals as goal

pub returns : goal.returns
returns g c = merge_length
