use Rattle.silt_sorted_store.proofs.Entries.{entries_law}
use Rattle.silt_sorted_store.proofs.laws.entries_law.Goals as goal

pub returns : goal.returns
returns c = entries_law
