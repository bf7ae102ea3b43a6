use Rattle.silt_backup.proofs.Common.{rules}
use Rattle.silt_disk.proofs.Images.{rests_leaves}
use Rattle.silt_backup.proofs.backup.Backup.finish.Goals as goal

pub returns-in-Ok-true-clause-copy : goal.returns-in-Ok-true-clause-copy
returns-in-Ok-true-clause-copy g c = rests_leaves c.in_ok-copy_rest.ensures.rests (c.in-Ok-true.ensures.backup (search rules))
