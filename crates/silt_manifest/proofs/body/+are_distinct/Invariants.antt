use Rattle.silt_manifest.proofs.Common.{length}
use Rattle.silt_manifest.proofs.body.+are_distinct.Given as goal

abbrev pub decreases-are_distinct : goal.decreases-are_distinct
decreases-are_distinct l = length l.ids.now
