use Rattle.silt_image.proofs.Verdict.{verdict_law}
use Rattle.silt_image.proofs.laws.verdict_law.Goals as goal

pub returns : goal.returns
returns c = verdict_law
