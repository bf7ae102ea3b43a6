use Rattle.silt_progress.proofs.Rooms.{rest}
use Rattle.silt_progress.proofs.laws.rest_law.Goals as goal

pub returns : goal.returns
returns g c = rest
