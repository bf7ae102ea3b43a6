use Rattle.silt_desk.proofs.Servings.{held}
use Rattle.silt_desk.proofs.laws.held_law.Goals as goal

pub returns : goal.returns
returns c = held
