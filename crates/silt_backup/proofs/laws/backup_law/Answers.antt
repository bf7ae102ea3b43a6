use Rattle.silt_backup.proofs.SameMaps.{backup_law}
use Rattle.silt_backup.proofs.laws.backup_law.Goals as goal

pub returns : goal.returns
returns g c = backup_law g.D.Disk
