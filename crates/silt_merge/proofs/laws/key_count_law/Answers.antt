use Rattle.silt_merge.proofs.Newest.{key_count_law}
use Rattle.silt_merge.proofs.laws.key_count_law.Goals as goal

pub returns : goal.returns
returns c = key_count_law
