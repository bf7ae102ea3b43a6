use Rattle.silt_progress.proofs.Merges.{merge_step}
use Rattle.silt_progress.proofs.laws.merge_step_law.Goals as goal

pub returns : goal.returns
returns g c = merge_step g.D.Disk
