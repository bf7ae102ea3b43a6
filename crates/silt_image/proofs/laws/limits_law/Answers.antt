use Rattle.silt_image.proofs.Named.{limits_law}
use Rattle.silt_image.proofs.laws.limits_law.Goals as goal

pub returns : goal.returns
returns c = limits_law
