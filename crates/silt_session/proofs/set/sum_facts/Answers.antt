use Rattle.silt_session.proofs.Common.{◌<◌, ◌≤◌, arith, length, IsSomeAnd, Option, Some, Facts}
use Rattle.silt_shards.proofs.Sums.{adds_end, adds_one}
use Rattle.silt_session.proofs.set.sum_facts.Goals as goal

pub loop-shard-init : goal.loop-shard-init
loop-shard-init g c = λ facts h. h

pub loop-shard-preserved : goal.loop-shard-preserved
loop-shard-preserved g c =
    let shards = c.args.shards.now in
    let i = c.loop-shard.shard-index in
    let within : i < length shards = omega arith in
    λ facts h.
    c.loop-shard.invariant facts
    (adds_one (λ shard (given : Option Facts). IsSomeAnd given (g.A.AskingAhead.informs shard)) shards i c.shard-item.result
    c.loop-shard.sum c.facts.result facts within c.shard-item.is c.facts.ensures
    (rw c.plus-sum.ensures at h))

pub returns : goal.returns
returns g c =
    let shards = c.args.shards.now in
    let i = c.loop-shard.shard-index in
    let past : length shards ≤ i = omega arith in
    rw c.no_facts-sum.ensures at
    (c.loop-shard.invariant (Some c.loop-shard.sum) (adds_end (λ shard (given : Option Facts). IsSomeAnd given (g.A.AskingAhead.informs shard)) shards i c.loop-shard.sum past))
