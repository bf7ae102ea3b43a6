use Rattle.silt_image.proofs.Rows.{again_law}
use Rattle.silt_image.proofs.laws.again_law.Goals as goal

pub returns : goal.returns
returns c = again_law
