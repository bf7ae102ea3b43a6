use Rattle.silt_jobs.proofs.Common.{◌≡◌, ◌≤◌, vec_len, vec_capacity, OpensFiles}
use Rattle.silt_jobs.proofs.jobs.sets.open_files.Given as goal

-- the files so far were opened
abbrev pub invariant-loop-shard : goal.invariant-loop-shard
invariant-loop-shard g l =
    record {
      count : vec_len l.disks ≡ l.shard;
      room : l.files.shards ≤ vec_capacity l.disks;
      opened : OpensFiles g.S.DiskSource l.source l.shared l.files.name.now l.shard l.disks.items;
    }
