use Rattle.silt_progress.proofs.Rooms.{wait}
use Rattle.silt_progress.proofs.laws.wait_law.Goals as goal

pub returns : goal.returns
returns g c = wait
