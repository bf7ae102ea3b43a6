use Rattle.silt_gamma.proofs.Gamma.{gamma_law}
use Rattle.silt_gamma.proofs.laws.gamma_law.Goals as goal

pub returns : goal.returns
returns c = gamma_law
