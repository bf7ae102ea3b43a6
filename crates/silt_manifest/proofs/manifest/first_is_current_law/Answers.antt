use Rattle.silt_manifest.proofs.FirstExits.{first_is_current}
use Rattle.silt_manifest.proofs.manifest.first_is_current_law.Goals as goal

pub returns : goal.returns
returns c = first_is_current
