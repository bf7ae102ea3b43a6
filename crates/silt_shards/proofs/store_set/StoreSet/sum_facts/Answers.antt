use Rattle.silt_shards.proofs.Common.{◌<◌, ◌≤◌, ◌+◌, drop, None, arith, length, subst, Facts, AddsFacts, Informs}
use Rattle.silt_shards.proofs.Sums.{adds_end, adds_none, adds_one}
use Rattle.silt_shards.proofs.store_set.StoreSet.sum_facts.Goals as goal

pub loop-shard-init : goal.loop-shard-init
loop-shard-init g c = λ facts h. h

pub loop-shard-preserved : goal.loop-shard-preserved
loop-shard-preserved g c =
    let shards = c.deref-shard-items.result.now in
    let within : c.loop-shard.shard-index < length shards = omega arith in
    λ facts h.
    c.loop-shard.invariant facts
    (adds_one (Informs g.A.Answerer.administers) shards c.loop-shard.shard-index c.shard-item.result c.loop-shard.sum c.in_ok-facts_given.field-0 facts within c.shard-item.is
    c.in_ok-facts_given.ensures (subst (λ (s : Facts). AddsFacts (Informs g.A.Answerer.administers) s (drop (c.loop-shard.shard-index + 1) shards) facts) c.plus-sum.ensures h))

pub returns-in_err-facts_given : goal.returns-in_err-facts_given
returns-in_err-facts_given g c =
    let shards = c.deref-shard-items.result.now in
    let within : c.loop-shard.shard-index < length shards = omega arith in
    let none = c.loop-shard.invariant None (adds_none (Informs g.A.Answerer.administers) shards _ c.shard-item.result _ within c.shard-item.is c.in_err-facts_given.ensures) in
    rw (c.from_residual.ensures, ← c.self.view_is, ← c.deref-shard-items.ensures.value, ← c.no_facts-sum.ensures) none

pub returns : goal.returns
returns g c =
    let past : length c.deref-shard-items.result.now ≤ c.loop-shard.shard-index = omega arith in
    rw (← c.self.view_is, ← c.deref-shard-items.ensures.value, ← c.no_facts-sum.ensures) (c.loop-shard.invariant _ (adds_end (Informs g.A.Answerer.administers) _ _ c.loop-shard.sum past))
