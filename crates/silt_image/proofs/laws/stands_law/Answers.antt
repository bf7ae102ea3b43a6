use Rattle.silt_image.proofs.Verdict.{stands_law}
use Rattle.silt_image.proofs.laws.stands_law.Goals as goal

pub returns : goal.returns
returns c = stands_law
