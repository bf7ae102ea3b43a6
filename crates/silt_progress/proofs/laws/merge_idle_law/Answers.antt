use Rattle.silt_progress.proofs.Merges.{merge_idle}
use Rattle.silt_progress.proofs.laws.merge_idle_law.Goals as goal

pub returns : goal.returns
returns g c = merge_idle
