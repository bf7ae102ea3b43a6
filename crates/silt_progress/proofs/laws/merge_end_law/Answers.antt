use Rattle.silt_progress.proofs.Merges.{merge_end}
use Rattle.silt_progress.proofs.laws.merge_end_law.Goals as goal

pub returns : goal.returns
returns g c = merge_end g.D.Disk
