use Rattle.std.proofs.Common.{length}
use Rattle.silt_view.proofs.moment.+read_logs.Given as goal

abbrev pub decreases-read_logs : goal.decreases-read_logs
decreases-read_logs g l = length l.others.now
