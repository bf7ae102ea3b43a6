use Rattle.silt_image.proofs.Verdict.{empty_law}
use Rattle.silt_image.proofs.laws.empty_law.Goals as goal

pub returns : goal.returns
returns c = empty_law
