use Rattle.silt_image.proofs.Sound.{said_law}
use Rattle.silt_image.proofs.laws.said_law.Goals as goal

pub returns : goal.returns
returns c = said_law
