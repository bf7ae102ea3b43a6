use Rattle.silt_image.proofs.Named.{stores_law}
use Rattle.silt_image.proofs.laws.stores_law.Goals as goal

pub returns : goal.returns
returns c = stores_law
