use Rattle.silt_recovery.proofs.Common.{◌≤◌, ◌*◌, take, AreReadHashes, vec_capacity}
use Rattle.silt_recovery.proofs.hashes.read_hashes.Given as goal

-- the hash stores so far are read, and there is room for all
abbrev pub invariant-loop-place : goal.invariant-loop-place
invariant-loop-place g l = record {
  read : AreReadHashes (g.D.Disk.content l.disk) l.geometry l.said (take l.place l.regions) l.stores.items l.puts l.rows;
  most_puts : l.puts ≤ l.place * 131072;
  most_rows : l.rows ≤ l.place * 131072;
  room : 16 ≤ vec_capacity l.stores;
}
