use Rattle.std.proofs.Common.{◌≡◌, ℕ, rules}
use borrow.Author.Count.{below_more}
use Rattle.silt_jobs.specs.SetFiles.{shard_file}
use Rattle.silt.specs.Streams.{IsNoStream}
use Rattle.silt.proofs.clash.clash_among.Goals as goal

pub loop-shard-preserved : goal.loop-shard-preserved
loop-shard-preserved g c =
    let path : c.as_str.result.now ≡ shard_file c.args.file.now c.loop-shard.shard = search rules in
    below_more (λ (shard : ℕ). IsNoStream (g.H.StandardStreams.are_file c.args.rt.now) (shard_file c.args.file.now shard)) c.loop-shard.shard c.loop-shard.invariant
    (rw path at c.clash_at.ensures.apart c.in-None.is)
