use Rattle.silt_progress.proofs.Conversions.{all_law}
use Rattle.silt_progress.proofs.laws.convert_all_law.Goals as goal

pub returns : goal.returns
returns g c = all_law g.D.Disk
