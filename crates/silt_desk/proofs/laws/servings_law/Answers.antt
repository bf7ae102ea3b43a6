use Rattle.silt_desk.proofs.Servings.{servings}
use Rattle.silt_desk.proofs.laws.servings_law.Goals as goal

pub returns : goal.returns
returns g c = servings g.D.Disk
