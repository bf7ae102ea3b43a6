use Rattle.silt_image.proofs.Sound.{beginning_law}
use Rattle.silt_image.proofs.laws.beginning_law.Goals as goal

pub returns : goal.returns
returns c = beginning_law
