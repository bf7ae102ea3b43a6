use Rattle.silt_cuckoo.proofs.KeyIndex.{push_law}
use Rattle.silt_cuckoo.proofs.laws.push_law.Goals as goal

pub returns : goal.returns
returns c = push_law
