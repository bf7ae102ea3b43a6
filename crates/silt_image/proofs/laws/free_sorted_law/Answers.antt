use Rattle.silt_image.proofs.Frame.{free_sorted_law}
use Rattle.silt_image.proofs.laws.free_sorted_law.Goals as goal

pub returns : goal.returns
returns c = free_sorted_law
