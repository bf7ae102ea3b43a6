use Rattle.silt_device.proofs.Gathering.{saves_writes}
use Rattle.silt_device.proofs.buffered_disk.saves_writes_law.Goals as goal

pub returns : goal.returns
returns g c = saves_writes
