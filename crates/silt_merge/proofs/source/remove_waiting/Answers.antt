use Rattle.silt_merge.proofs.Kept.{remove_waiting}
use Rattle.silt_merge.proofs.source.remove_waiting.Goals as goal

pub returns-clause-gone : goal.returns-clause-gone
returns-clause-gone c = remove_waiting c.args.key.now c.args.waiting.now c.remove-row.new.self c.remove-row.ensures.updates
