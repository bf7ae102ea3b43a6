use Rattle.silt_image.proofs.Frame.{log_region_law}
use Rattle.silt_image.proofs.laws.log_region_law.Goals as goal

pub returns : goal.returns
returns c = log_region_law
