use Rattle.silt_image.proofs.Named.{digests_law}
use Rattle.silt_image.proofs.laws.digests_law.Goals as goal

pub returns : goal.returns
returns c = digests_law
