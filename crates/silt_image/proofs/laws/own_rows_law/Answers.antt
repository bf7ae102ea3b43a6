use Rattle.silt_image.proofs.Rows.{own_rows_law}
use Rattle.silt_image.proofs.laws.own_rows_law.Goals as goal

pub returns : goal.returns
returns c = own_rows_law
