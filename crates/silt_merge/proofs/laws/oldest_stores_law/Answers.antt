use Rattle.silt_merge.proofs.Elsewhere.{oldest_stores_law}
use Rattle.silt_merge.proofs.laws.oldest_stores_law.Goals as goal

pub returns : goal.returns
returns c = oldest_stores_law
