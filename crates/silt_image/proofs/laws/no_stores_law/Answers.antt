use Rattle.silt_image.proofs.Verdict.{no_stores_law}
use Rattle.silt_image.proofs.laws.no_stores_law.Goals as goal

pub returns : goal.returns
returns c = no_stores_law
