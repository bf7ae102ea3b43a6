use Rattle.silt_sorted_store.proofs.Elsewhere.{indexed_elsewhere}
use Rattle.silt_sorted_store.proofs.laws.indexed_elsewhere_law.Goals as goal

pub returns : goal.returns
returns c = indexed_elsewhere
