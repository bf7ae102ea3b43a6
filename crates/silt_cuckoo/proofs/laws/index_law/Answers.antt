use Rattle.silt_cuckoo.proofs.Indexing.{index_law}
use Rattle.silt_cuckoo.proofs.laws.index_law.Goals as goal

pub returns : goal.returns
returns c = index_law
