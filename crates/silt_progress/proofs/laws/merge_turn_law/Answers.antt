use Rattle.silt_progress.proofs.Merges.{merge_turn}
use Rattle.silt_progress.proofs.laws.merge_turn_law.Goals as goal

pub returns : goal.returns
returns g c = merge_turn g.D.Disk
