use Rattle.silt_device.proofs.Common.{◌≡◌, ◌≤◌}
use Rattle.silt_device.proofs.Freeing.{Frees}
use Rattle.silt_device.proofs.buffered_disk.BufferedDiskDisk.sync.Given as goal

-- the last buffer was freed so many times
abbrev pub invariant-loop-turn : goal.invariant-loop-turn
invariant-loop-turn g l = record {
  frees : Frees g.D.Disk.content g.D.Disk.writes g.D.Disk.syncs l._turn l.initial.self-inside.buffers l.initial.self-inside.inner l.self-inside.buffers l.self-inside.inner;
  upto : l._turn ≤ 3;
  calls : l.self-inside.calls ≡ l.initial.self-inside.calls;
}
