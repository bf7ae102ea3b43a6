use Rattle.silt_progress.proofs.Rooms.{room}
use Rattle.silt_progress.proofs.laws.room_law.Goals as goal

pub returns : goal.returns
returns g c = room g.D.Disk
