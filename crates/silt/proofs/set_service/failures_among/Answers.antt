use Rattle.std.proofs.Common.{arith, refl, take_all}
use Rattle.silt.proofs.set_service.failures_among.Goals as goal

pub returns : goal.returns
returns g c =
    let disks = c.args.disks.now in
    rw (c.none.ensures) (refl, rw (take_all c.loop-shard.shard disks (omega (arith, c.loop-shard-test.false, c.loop-shard.auto.shard-end))) at c.loop-shard.invariant)
