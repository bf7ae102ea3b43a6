use Rattle.silt_image.proofs.Search.{charge_found_law}
use Rattle.silt_image.proofs.laws.charge_found_law.Goals as goal

pub returns : goal.returns
returns c = charge_found_law
