use Rattle.silt_hash_store.proofs.Elsewhere.{hash_elsewhere}
use Rattle.silt_hash_store.proofs.laws.hash_elsewhere_law.Goals as goal

pub returns : goal.returns
returns c = hash_elsewhere
