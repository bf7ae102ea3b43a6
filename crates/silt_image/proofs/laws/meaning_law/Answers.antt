use Rattle.silt_image.proofs.Frame.{meaning_law}
use Rattle.silt_image.proofs.laws.meaning_law.Goals as goal

pub returns : goal.returns
returns c = meaning_law
