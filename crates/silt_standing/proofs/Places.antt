-- Where the parts of a device lie.
use Rattle.std.proofs.Common.{ℕ, ◌+◌, ◌*◌, ◌≤◌, ◌<◌, inl, arith}
use Rattle.silt_disk.specs.Disk.{LiesOutside}
use Rattle.silt_disk.specs.Layout.{Shape, entries_len, commits_at, hash_size, log_size, sorted_at, sorted_size}
use Rattle.silt_disk.proofs.Regions.{next_region}

-- the entries of each sorted region lie behind the logs
pub log_ends_before : (size logs region hashes rest : ℕ) → region < logs → 12288 + region * size + size ≤ 12288 + logs * size + hashes + rest
log_ends_before size logs region hashes rest below = omega (arith, next_region region logs size below)

pub entries_behind_log : (shape : Shape) (region sorted : ℕ) → region < shape.logs → LiesOutside (sorted_at shape sorted) (entries_len shape) (commits_at shape region) (log_size shape)
entries_behind_log shape region sorted below = inl (log_ends_before (log_size shape) shape.logs region (shape.hashes * hash_size shape) (sorted * sorted_size shape) below)
