use Rattle.silt_progress.proofs.Conversions.{frees_law}
use Rattle.silt_progress.proofs.laws.frees_law.Goals as goal

pub returns : goal.returns
returns g c = frees_law g.D.Disk
