use Rattle.silt_session.proofs.Common.{◌∙◌, ◌++◌, ◌∷◌, [], Vec, ap, append_assoc, arith, length, sym, into_iter_items}
use Rattle.silt_session.proofs.Sets.{deals_more, routes_more}
use Rattle.silt_session.proofs.set.deal.Goals as goal

pub loop-event-preserved : goal.loop-event-preserved
loop-event-preserved c =
    let before = c.loop-event.invariant in
    let (done, whole, routes, dealt) = before.dealt in
    let items = c.in-Some.ensures.steps.0 in
    let event = c.in-Some.event in
    let old = c.loop-event.parts.items in
    let new = c.deal_one.new.parts.items in
    let deals = rw before.count at c.in_ok-deal_one.ensures in
    record {
      can = tt;
      finite = tt;
      room = omega (arith, before.room, ap length items, c.push_reserved.ensures.len, c.push_reserved.ensures.capacity);
      count = omega (arith, before.count, deals.0, c.loop-event.parts.ok.0, c.deal_one.new.parts.ok.0);
      dealt = (
        done ++ event ∷ [],
        append_assoc done (event ∷ []) (into_iter_items c.next.new.self) ∙ ap (λ l. done ++ l) (sym items) ∙ whole,
        routes_more c.args.count done event c.route_of-route.result c.loop-event.routes.items c.push_reserved.new.self.items routes c.route_of-route.ensures.route c.push_reserved.ensures.items,
        deals_more (λ (part : Vec _ _). part.items) c.args.count done event old new dealt deals,
      );
    }
