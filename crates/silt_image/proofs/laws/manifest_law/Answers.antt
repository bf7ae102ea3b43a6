use Rattle.silt_image.proofs.Frame.{manifest_law}
use Rattle.silt_image.proofs.laws.manifest_law.Goals as goal

pub returns : goal.returns
returns c = manifest_law
