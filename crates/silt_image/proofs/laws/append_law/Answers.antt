use Rattle.silt_image.proofs.Rows.{append_law}
use Rattle.silt_image.proofs.laws.append_law.Goals as goal

pub returns : goal.returns
returns c = append_law
