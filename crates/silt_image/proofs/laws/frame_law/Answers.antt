use Rattle.silt_image.proofs.Frame.{frame_law}
use Rattle.silt_image.proofs.laws.frame_law.Goals as goal

pub returns : goal.returns
returns c = frame_law
