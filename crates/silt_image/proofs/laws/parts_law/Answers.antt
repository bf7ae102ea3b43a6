use Rattle.silt_image.proofs.Sound.{parts_law}
use Rattle.silt_image.proofs.laws.parts_law.Goals as goal

pub returns : goal.returns
returns c = parts_law
