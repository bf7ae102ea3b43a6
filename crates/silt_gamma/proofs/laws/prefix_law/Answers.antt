use Rattle.silt_gamma.proofs.Gamma.{prefix_law}
use Rattle.silt_gamma.proofs.laws.prefix_law.Goals as goal

pub returns : goal.returns
returns c = prefix_law
