use Rattle.silt_cuckoo.proofs.Placed.{pair_law}
use Rattle.silt_cuckoo.proofs.laws.pair_law.Goals as goal

pub returns : goal.returns
returns c = pair_law
