use Rattle.silt_jobs.proofs.Common.{inr, arith}
use Rattle.silt_jobs.proofs.SetParts.{made_more}
use Rattle.silt_jobs.proofs.jobs.sets.format_set.Goals as goal

pub returns-in-Err : goal.returns-in-Err
returns-in-Err g c =
    let set = rw c.is_set.ensures at c.if-not-is_set.false in
    inr (set, inr (inr (c.loop-shard.shard, c.loop-shard.made.items, c.loop-shard.people, _, c.loop-shard.invariant.made, rw (c.another.ensures) at c.in-Err.ensures.ended)))

pub loop-shard-preserved : goal.loop-shard-preserved
loop-shard-preserved g c =
    record {
      count = omega (arith, c.push_reserved.ensures.len, c.loop-shard.invariant.count);
      room = omega (arith, c.push_reserved.ensures.capacity, c.loop-shard.invariant.room);
      made = made_more g.S.Disk.Disk g.S.DiskSource c.args.source g.T.Tells.told _ _ _ _ _ c.loop-shard.shard _ c.loop-shard.people _ c.loop-shard.made.items _ c.in-Ok-make_shard.disk _ _ _
          c.push_reserved.ensures.items c.loop-shard.invariant.made (rw (c.another.ensures) at c.in-Ok-make_shard.ensures.made);
    }
