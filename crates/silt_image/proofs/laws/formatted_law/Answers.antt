use Rattle.silt_image.proofs.Headers.{formatted_law}
use Rattle.silt_image.proofs.laws.formatted_law.Goals as goal

pub returns : goal.returns
returns c = formatted_law
