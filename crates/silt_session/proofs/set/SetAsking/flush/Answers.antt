use Rattle.silt_session.proofs.Sets.{flush_given}
use Rattle.silt_session.proofs.set.SetAsking.flush.Goals as goal

pub returns : goal.returns
returns g c =
    flush_given g.A.AskingAhead.gives c.args.self.now.shards.now c.in-Ok.events.items c.in_ok-replies.replies.items c.pop.new.self.items c.pop.result c.ok_or.result c.in-Ok.ensures.items
    c.in_ok-replies.ensures c.pop.ensures.items c.ok_or.ensures.ok_part
