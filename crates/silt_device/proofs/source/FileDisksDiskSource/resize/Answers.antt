use Rattle.silt_device.proofs.Waiting.{opened_sizes}
use Rattle.silt_device.proofs.source.FileDisksDiskSource.resize.Goals as goal

pub returns-clause-size : goal.returns-clause-size
returns-clause-size g c = opened_sizes c.args.len c.resize.result c.resize.ensures.opened
