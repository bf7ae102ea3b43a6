use Rattle.silt_image.proofs.Headers.{header_law}
use Rattle.silt_image.proofs.laws.header_law.Goals as goal

pub returns : goal.returns
returns c = header_law
