use Rattle.silt_manifest.proofs.Laws.{other_records}
use Rattle.silt_manifest.proofs.manifest.other_records_law.Goals as goal

pub returns : goal.returns
returns c = other_records
