use Rattle.silt_session.proofs.Common.{◌∙◌, Vec, ap, arith, drop, drop-drop}
use Rattle.silt_session.proofs.Sets.{asked_next, each_all}
use Rattle.silt_session.proofs.set.begin_each.Goals as goal

pub loop-shard-preserved : goal.loop-shard-preserved
loop-shard-preserved g c =
    let before = c.loop-shard.invariant in
    let i = c.loop-shard.shard-index in
    let parts = c.from-parts.result.items in
    record {
      left = c.pop_front.ensures.rest ∙ ap (drop 1) before.left ∙ drop-drop 1 i parts;
      count = omega (arith, before.count, c.push_reserved.ensures.len);
      room = omega (arith, before.room, c.push_reserved.ensures.capacity);
      asked = asked_next g.A.AskingAhead.are_asked (λ (part : Vec _ _). part.items) c.args.shards.now parts c.loop-shard.parts.items c.pop_front.new.self.items c.loop-shard.asked.items
          c.push_reserved.new.self.items i c.shard-item.result c.in-Some.events c.in-Ok.one c.loop-shard-test.true c.shard-item.is (omega (arith, before.count, c.loop-shard.asked.ok.0)) before.left
          c.in-Some.ensures.items c.push_reserved.ensures.items before.asked c.in-Ok.ensures;
    }

pub returns : goal.returns
returns g c =
    rw (← c.from-parts.ensures.0) (each_all c.args.shards.now c.loop-shard.asked.items _ c.loop-shard.shard-index c.loop-shard-test.false c.loop-shard.invariant.asked)
