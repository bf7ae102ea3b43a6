use Rattle.silt_image.proofs.Search.{first_entry_law}
use Rattle.silt_image.proofs.laws.first_entry_law.Goals as goal

pub returns : goal.returns
returns c = first_entry_law
