use Rattle.silt_session.proofs.Common.{refl, arith}
use Rattle.silt_session.proofs.batch.Workplace.try_again.Goals as goal

pub loop-tried-init : goal.loop-tried-init
loop-tried-init g c = record { few = omega arith; none = refl }
