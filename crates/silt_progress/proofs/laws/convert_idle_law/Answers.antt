use Rattle.silt_progress.proofs.Conversions.{convert_idle}
use Rattle.silt_progress.proofs.laws.convert_idle_law.Goals as goal

pub returns : goal.returns
returns g c = convert_idle
