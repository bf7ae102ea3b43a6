use Rattle.silt_image.proofs.Rows.{new_log_law}
use Rattle.silt_image.proofs.laws.new_log_law.Goals as goal

pub returns : goal.returns
returns c = new_log_law
