use Rattle.silt_backup.proofs.Common.{length}
use Rattle.silt_backup.proofs.comparing.+has_logs.Given as goal

abbrev pub decreases-has_logs : goal.decreases-has_logs
decreases-has_logs g l = length l.others.now
