use Rattle.silt_image.proofs.Frame.{free_hash_law}
use Rattle.silt_image.proofs.laws.free_hash_law.Goals as goal

pub returns : goal.returns
returns c = free_hash_law
