use Rattle.silt_progress.proofs.Conversions.{run_law}
use Rattle.silt_progress.proofs.laws.convert_run_law.Goals as goal

pub returns : goal.returns
returns g c = run_law g.D.Disk
