use Rattle.std.proofs.Common.{◌<◌, ℕ}
use Rattle.silt_jobs.specs.SetFiles.{shard_file}
use Rattle.silt.specs.Streams.{IsNoStream}
use Rattle.silt.proofs.clash.clash_among.Given as goal

-- no file of the shards so far is a standard stream
abbrev pub invariant-loop-shard : goal.invariant-loop-shard
invariant-loop-shard g l = (shard : ℕ) → shard < l.shard → IsNoStream (g.H.StandardStreams.are_file l.rt) (shard_file l.file shard)
