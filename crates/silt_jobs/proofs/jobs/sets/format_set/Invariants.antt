use Rattle.silt_jobs.proofs.Common.{◌≡◌, ◌≤◌, vec_len, vec_capacity, MakesShards}
use Rattle.silt_jobs.proofs.jobs.sets.format_set.Given as goal

-- the shards so far were made
abbrev pub invariant-loop-shard : goal.invariant-loop-shard
invariant-loop-shard g l =
    record {
      count : vec_len l.made ≡ l.shard;
      room : l.asked.shards ≤ vec_capacity l.made;
      made : MakesShards g.S.Disk.Disk g.S.DiskSource l.source g.T.Tells.told l.asked.store.file.now l.asked.store.numbers l.asked.store.options l.asked.shards l.asked.set
          l.shard l.initial.people l.people l.made.items (g.W.Write.contents l.initial.writer) (g.W.Write.contents l.writer);
    }
