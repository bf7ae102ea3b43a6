use Rattle.silt_sorted_store.proofs.Digested.{entries_bytes_law}
use Rattle.silt_sorted_store.proofs.laws.entries_bytes_law.Goals as goal

pub returns : goal.returns
returns c = entries_bytes_law
