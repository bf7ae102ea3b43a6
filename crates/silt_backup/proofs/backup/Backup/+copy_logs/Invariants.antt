use Rattle.silt_backup.proofs.Common.{length}
use Rattle.silt_backup.proofs.backup.Backup.+copy_logs.Given as goal

abbrev pub decreases-copy_logs : goal.decreases-copy_logs
decreases-copy_logs g l = length l.others.now
