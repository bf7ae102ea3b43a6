use Rattle.silt_image.proofs.Search.{first_slot_law}
use Rattle.silt_image.proofs.laws.first_slot_law.Goals as goal

pub returns : goal.returns
returns c = first_slot_law
