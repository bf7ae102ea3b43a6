use Rattle.silt_merge.proofs.Kept.{first_least}
use Rattle.silt_merge.proofs.source.first.Goals as goal

pub returns : goal.returns
returns c = (c.in_ok-key.ensures.value, first_least c.args.waiting.now c.in_ok-key.key.now c.in_ok-key.ensures.least)
