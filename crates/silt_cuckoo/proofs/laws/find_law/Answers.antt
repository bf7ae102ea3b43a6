use Rattle.silt_cuckoo.proofs.Finding.{find_law}
use Rattle.silt_cuckoo.proofs.laws.find_law.Goals as goal

pub returns : goal.returns
returns c = find_law
