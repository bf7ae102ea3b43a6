use Rattle.silt_progress.proofs.Merges.{merge_run}
use Rattle.silt_progress.proofs.laws.merge_run_law.Goals as goal

pub returns : goal.returns
returns g c = merge_run g.D.Disk
