use Rattle.silt_manifest.proofs.Laws.{other_regions}
use Rattle.silt_manifest.proofs.manifest.other_regions_law.Goals as goal

pub returns : goal.returns
returns c = other_regions
