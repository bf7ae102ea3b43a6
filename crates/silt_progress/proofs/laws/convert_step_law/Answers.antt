use Rattle.silt_progress.proofs.Conversions.{step_law}
use Rattle.silt_progress.proofs.laws.convert_step_law.Goals as goal

pub returns : goal.returns
returns g c = step_law g.D.Disk
