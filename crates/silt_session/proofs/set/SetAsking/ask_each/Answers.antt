use Rattle.silt_session.proofs.Common.{Vec, arith, VecDeque}
use Rattle.silt_session.proofs.Sets.{set_answers}
use Rattle.silt_session.proofs.set.SetAsking.ask_each.Goals as goal

pub returns : goal.returns
returns g c =
    let dealt = c.in-Ok-deal.dealt in
    let told = c.in_ok-told.told in
    set_answers g.A.AskingAhead.gives g.A.AskingAhead.are_asked c.args.self.now.shards.now (λ (part : Vec _ _). part.items) (λ (list : VecDeque _ _). list.items) (λ (list : Vec _ _). list.items)
    c.args.events.items dealt.parts.items c.in_ok-asked.asked.items told.items dealt.routes.items c.weave.result c.ok_or.result (omega (arith, c.in_ok-told.ensures.count, told.ok.0))
    c.in-Ok-deal.ensures.routes c.in-Ok-deal.ensures.parts.1 c.in_ok-asked.ensures c.in_ok-told.ensures.told c.weave.ensures c.ok_or.ensures.ok_part
