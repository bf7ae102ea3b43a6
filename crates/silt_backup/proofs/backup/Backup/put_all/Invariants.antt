use Rattle.silt_backup.proofs.Common.{◌≡◌, ◌-◌, ◌≤◌, length, size}
use Rattle.silt_backup.proofs.backup.Backup.put_all.Given as goal

-- the first bytes were written, and the disk has its length
abbrev pub invariant-loop-done : goal.invariant-loop-done
invariant-loop-done g l = record {
  upto : l.done ≤ length l.bytes;
  size : size (g.D.Disk.content l.disk) ≡ size (g.D.Disk.content l.initial.disk);
}

abbrev pub decreases-loop-done : goal.decreases-loop-done
decreases-loop-done g l = length l.bytes - l.done
