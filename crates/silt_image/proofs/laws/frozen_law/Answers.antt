use Rattle.silt_image.proofs.Sound.{frozen_law}
use Rattle.silt_image.proofs.laws.frozen_law.Goals as goal

pub returns : goal.returns
returns c = frozen_law
