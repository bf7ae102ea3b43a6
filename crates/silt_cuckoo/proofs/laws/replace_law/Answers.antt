use Rattle.silt_cuckoo.proofs.Replaced.{replace_law}
use Rattle.silt_cuckoo.proofs.laws.replace_law.Goals as goal

pub returns : goal.returns
returns c = replace_law
