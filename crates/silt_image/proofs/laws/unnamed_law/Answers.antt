use Rattle.silt_image.proofs.Rows.{unnamed_law}
use Rattle.silt_image.proofs.laws.unnamed_law.Goals as goal

pub returns : goal.returns
returns c = unnamed_law
