use Rattle.silt_image.proofs.Verdict.{sound_law}
use Rattle.silt_image.proofs.laws.sound_law.Goals as goal

pub returns : goal.returns
returns c = sound_law
