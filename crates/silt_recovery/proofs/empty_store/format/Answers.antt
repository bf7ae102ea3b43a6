use Rattle.silt_disk.proofs.Costs.{most_none}
use Rattle.silt_recovery.proofs.HalfFormats.{left_so}
use Rattle.silt_recovery.proofs.empty_store.format.Goals as goal

pub returns-then-len-size-clause-images : goal.returns-then-len-size-clause-images
returns-then-len-size-clause-images g c = left_so c.args.geometry (g.D.Disk.content c.args.disk)

pub returns-in_default-clause-images : goal.returns-in_default-clause-images
returns-in_default-clause-images g c = left_so c.args.geometry (g.D.Disk.content c.args.disk)

pub returns-then-len-size-clause-made : goal.returns-then-len-size-clause-made
returns-then-len-size-clause-made g c = most_none

pub returns-in_default-clause-made : goal.returns-in_default-clause-made
returns-in_default-clause-made g c = most_none
