use Rattle.silt_image.proofs.Sound.{charge_law}
use Rattle.silt_image.proofs.laws.charge_law.Goals as goal

pub returns : goal.returns
returns c = charge_law
