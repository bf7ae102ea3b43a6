use Rattle.silt_image.proofs.Search.{first_finding_law}
use Rattle.silt_image.proofs.laws.first_finding_law.Goals as goal

pub returns : goal.returns
returns c = first_finding_law
