use Rattle.silt_session.proofs.Common.{◌<◌, ◌∙◌, get_or, length, sym, refl, slice_get-get_or}
use Rattle.silt_session.proofs.Sets.{flush_only, one_gives}
use Rattle.silt_session.proofs.set.SetAskingAsking.ask.Goals as goal

pub returns-in-One-clause-reply : goal.returns-in-One-clause-reply
returns-in-One-clause-reply g c =
    let shards = c.args.self.now.shards.now in
    let number = c.in-One.shard in
    let within : number < length shards = rw c.in-One.is at c.route_of.ensures.within in
    let d = c.index-self-shard.result in
    one_gives g.A.AskingAhead.gives shards c.args.event number (get_or shards number d) c.ask.result (sym c.route_of.ensures.route ∙ c.in-One.is)
    (slice_get-get_or shards number d within) c.ask.ensures

pub returns-in-All-clause-reply : goal.returns-in-All-clause-reply
returns-in-All-clause-reply g c = rw (flush_only _ c.args.event (sym c.route_of.ensures.route ∙ c.in-All.is)) c.flush.ensures

pub returns-in-Nowhere-clause-reply : goal.returns-in-Nowhere-clause-reply
returns-in-Nowhere-clause-reply g c = rw (sym c.route_of.ensures.route ∙ c.in-Nowhere.is) refl
