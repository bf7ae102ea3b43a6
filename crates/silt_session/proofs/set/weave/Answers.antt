use Rattle.silt_session.proofs.Common.{◌∙◌, ◌++◌, ◌∷◌, [], ap, append_assoc, arith, length, sym, into_iter_items, VecDeque}
use Rattle.silt_session.proofs.Sets.{draws_more}
use Rattle.silt_session.proofs.set.weave.Goals as goal

pub loop-route-preserved : goal.loop-route-preserved
loop-route-preserved c =
    let before = c.loop-route.invariant in
    let (done, whole, drawn) = before.drawn in
    let items = c.in-Some.ensures.steps.0 in
    let route = c.in-Some.route in
    let told = c.args.told.items in
    record {
      can = tt;
      finite = tt;
      room = omega (arith, before.room, ap length items, c.push_reserved.ensures.len, c.push_reserved.ensures.capacity);
      drawn = (
        done ++ route ∷ [],
        append_assoc done (route ∷ []) (into_iter_items c.next.new.self) ∙ ap (λ l. done ++ l) (sym items) ∙ whole,
        rw c.push_reserved.ensures.items
            (draws_more told c.loop-route.told.items c.draw.new.told.items done c.loop-route.replies.items route _ (λ (list : VecDeque _ _). list.items) drawn c.in_ok-draw.ensures),
      );
    }
