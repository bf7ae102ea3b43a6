use Rattle.silt_session.proofs.Common.{◌∙◌, arith, length-set, VecDeque, rest_next}
use Rattle.silt_session.proofs.Sets.{heads_next}
use Rattle.silt_session.proofs.set.draw_heads.Goals as goal

pub loop-replies-preserved : goal.loop-replies-preserved
loop-replies-preserved c =
    let before = c.loop-replies.invariant in
    let old = c.deref_mut-replies-items.result.now in
    let now = c.loop-replies.replies-items in
    let i = c.loop-replies.replies-index in
    record {
      done = heads_next (λ (list : VecDeque _ _). list.items) old now i c.replies-item.result c.pop_front.new.self c.loop-replies.joined
          c.join-joined.result _ (omega (arith, c.loop-replies-test.true, before.same_length)) before.same_length before.rest
          c.join-joined.ensures before.done c.in_ok-pop_front.ensures.items;
      rest = rest_next old now i _ before.rest;
      same_length = length-set now i _ ∙ before.same_length;
    }
