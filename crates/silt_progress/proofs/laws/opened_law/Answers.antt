use Rattle.silt_progress.proofs.Sizes.{opened}
use Rattle.silt_progress.proofs.laws.opened_law.Goals as goal

pub returns : goal.returns
returns g c = opened g.D.Disk
