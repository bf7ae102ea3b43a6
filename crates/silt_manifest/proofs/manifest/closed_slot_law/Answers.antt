use Rattle.silt_manifest.proofs.Laws.{closed_slots}
use Rattle.silt_manifest.proofs.manifest.closed_slot_law.Goals as goal

pub returns : goal.returns
returns c = closed_slots
