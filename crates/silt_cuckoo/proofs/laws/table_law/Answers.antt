use Rattle.silt_cuckoo.proofs.Placed.{table_law}
use Rattle.silt_cuckoo.proofs.laws.table_law.Goals as goal

pub returns : goal.returns
returns c = table_law
