use Rattle.silt_session.proofs.Common.{arith, VecDeque}
use Rattle.silt_session.proofs.Sets.{draws_from}
use Rattle.silt_session.proofs.set.draw_from.Goals as goal

pub returns : goal.returns
returns c =
    let told = c.args.told.now in
    draws_from (λ (list : VecDeque _ _). list.items) told.items c.args.shard c.index_mut.result.now c.pop_front.new.self c.pop_front.result
    (omega (arith, c.if-shard-len.false, c.len.ensures, told.ok.0))
    c.index_mut.ensures.value c.pop_front.ensures.items
