use Rattle.silt_recovery.proofs.Common.{◌≤◌, ◌*◌, take, AreReadLogs, ◌^◌, vec_capacity}
use Rattle.silt_recovery.proofs.logs.read_frozen.Given as goal

-- the logs so far are read, and there is room for all
abbrev pub invariant-loop-region : goal.invariant-loop-region
invariant-loop-region g l = record {
  read : AreReadLogs (g.D.Disk.content l.disk) l.geometry (take l.region-index l.regions) l.stores.items l.puts;
  most : l.puts ≤ l.region-index * 2 ^ 32;
  room : 7 ≤ vec_capacity l.stores;
}
