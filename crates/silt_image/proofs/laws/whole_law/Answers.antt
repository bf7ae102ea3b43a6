use Rattle.silt_image.proofs.Named.{whole_law}
use Rattle.silt_image.proofs.laws.whole_law.Goals as goal

pub returns : goal.returns
returns c = whole_law
