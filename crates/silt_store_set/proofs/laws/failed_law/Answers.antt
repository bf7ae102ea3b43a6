use Rattle.silt_store_set.proofs.Failures.{failed_law}
use Rattle.silt_store_set.proofs.laws.failed_law.Goals as goal

pub returns : goal.returns
returns g c = failed_law g.D.Disk
