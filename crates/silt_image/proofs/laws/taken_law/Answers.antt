use Rattle.silt_image.proofs.Sound.{taken_law}
use Rattle.silt_image.proofs.laws.taken_law.Goals as goal

pub returns : goal.returns
returns c = taken_law
