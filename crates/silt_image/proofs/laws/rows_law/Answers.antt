use Rattle.silt_image.proofs.Verdict.{rows_law}
use Rattle.silt_image.proofs.laws.rows_law.Goals as goal

pub returns : goal.returns
returns c = rows_law
