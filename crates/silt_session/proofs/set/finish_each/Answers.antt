use Rattle.silt_session.proofs.Common.{◌∙◌, ap, arith, drop, VecDeque, drop-drop}
use Rattle.silt_session.proofs.Sets.{each_all, told_next}
use Rattle.silt_session.proofs.set.finish_each.Goals as goal

pub loop-shard-preserved : goal.loop-shard-preserved
loop-shard-preserved g c =
    let before = c.loop-shard.invariant in
    let i = c.loop-shard.shard-index in
    let asked = c.from-asked.result.items in
    record {
      left = c.pop_front.ensures.rest ∙ ap (drop 1) before.left ∙ drop-drop 1 i asked;
      count = omega (arith, before.count, c.push_reserved.ensures.len);
      room = omega (arith, before.room, c.push_reserved.ensures.capacity);
      told = told_next g.A.AskingAhead.gives g.A.AskingAhead.are_asked (λ (list : VecDeque _ _). list.items) c.args.shards.now asked
          c.loop-shard.asked.items c.pop_front.new.self.items c.loop-shard.told.items
          c.push_reserved.new.self.items i c.shard-item.result c.in-Some.one c.from.result c.in-Ok.replies.items c.loop-shard-test.true c.shard-item.is
          (omega (arith, before.count, c.loop-shard.told.ok.0)) before.left c.in-Some.ensures.items c.push_reserved.ensures.items c.from.ensures.0 before.told c.in-Ok.ensures;
    }

pub returns-clause-told : goal.returns-clause-told
returns-clause-told g c =
    rw (← c.from-asked.ensures.0) (each_all c.args.shards.now c.loop-shard.told.items _ c.loop-shard.shard-index c.loop-shard-test.false c.loop-shard.invariant.told)
