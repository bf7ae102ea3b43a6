use Rattle.silt_recovery.proofs.Common.{arith, too_short}
use Rattle.silt_recovery.proofs.header.read_geometry.Goals as goal

pub returns-then-len-clause-cause : goal.returns-then-len-clause-cause
returns-then-len-clause-cause g c = λ h. too_short _ _ (omega arith)
