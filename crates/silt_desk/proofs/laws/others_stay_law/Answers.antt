use Rattle.silt_desk.proofs.Common.{others_stay_law}
use Rattle.silt_desk.proofs.laws.others_stay_law.Goals as goal

pub returns : goal.returns
returns c = others_stay_law
