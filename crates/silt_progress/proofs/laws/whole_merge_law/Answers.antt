use Rattle.silt_progress.proofs.Merges.{whole_merge}
use Rattle.silt_progress.proofs.laws.whole_merge_law.Goals as goal

pub returns : goal.returns
returns g c = whole_merge g.D.Disk
