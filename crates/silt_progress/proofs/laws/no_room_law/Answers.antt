use Rattle.silt_progress.proofs.Rooms.{no_room}
use Rattle.silt_progress.proofs.laws.no_room_law.Goals as goal

pub returns : goal.returns
returns g c = no_room g.D.Disk
