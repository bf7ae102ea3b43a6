use Rattle.silt_desk.proofs.Servings.{follows}
use Rattle.silt_desk.proofs.laws.follows_law.Goals as goal

pub returns : goal.returns
returns c = follows
