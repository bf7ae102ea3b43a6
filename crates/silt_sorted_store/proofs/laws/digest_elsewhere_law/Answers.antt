use Rattle.silt_sorted_store.proofs.Elsewhere.{digest_elsewhere}
use Rattle.silt_sorted_store.proofs.laws.digest_elsewhere_law.Goals as goal

pub returns : goal.returns
returns c = digest_elsewhere
