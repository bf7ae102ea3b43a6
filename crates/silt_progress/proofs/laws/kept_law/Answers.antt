use Rattle.silt_progress.proofs.Sizes.{kept}
use Rattle.silt_progress.proofs.laws.kept_law.Goals as goal

pub returns : goal.returns
returns g c = kept g.D.Disk
