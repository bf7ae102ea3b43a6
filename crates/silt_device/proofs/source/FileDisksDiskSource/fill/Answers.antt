use Rattle.silt_device.proofs.Waiting.{opened_sizes}
use Rattle.silt_device.proofs.source.FileDisksDiskSource.fill.Goals as goal

pub returns-clause-size : goal.returns-clause-size
returns-clause-size g c = opened_sizes c.args.len c.fill.result c.fill.ensures.opened
