use Rattle.silt_sorted_store.proofs.Elsewhere.{entries_elsewhere}
use Rattle.silt_sorted_store.proofs.laws.entries_elsewhere_law.Goals as goal

pub returns : goal.returns
returns c = entries_elsewhere
