use Rattle.silt_image.proofs.Rows.{new_active_law}
use Rattle.silt_image.proofs.laws.new_active_law.Goals as goal

pub returns : goal.returns
returns c = new_active_law
