use Rattle.silt_progress.proofs.Backgrounds.{background}
use Rattle.silt_progress.proofs.laws.background_law.Goals as goal

pub returns : goal.returns
returns g c = background g.D.Disk
