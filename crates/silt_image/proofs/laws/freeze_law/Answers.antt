use Rattle.silt_image.proofs.Frame.{freeze_law}
use Rattle.silt_image.proofs.laws.freeze_law.Goals as goal

pub returns : goal.returns
returns c = freeze_law
