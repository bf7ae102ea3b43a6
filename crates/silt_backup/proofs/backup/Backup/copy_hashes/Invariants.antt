use Rattle.silt_backup.proofs.Common.{◌≡◌, length, size}
use Rattle.silt_backup.proofs.backup.Backup.copy_hashes.Given as goal

-- the disk has its length
abbrev pub invariant-loop-region : goal.invariant-loop-region
invariant-loop-region g l = record {
  room : length l.room ≡ length l.initial.room;
  size : size (g.D.Disk.content l.disk) ≡ size (g.D.Disk.content l.initial.disk);
}
