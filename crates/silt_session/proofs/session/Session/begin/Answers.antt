use Rattle.silt_session.proofs.Tolds.{asked_more}
use Rattle.silt_session.proofs.session.Session.begin.Goals as goal

pub returns : goal.returns
returns g c =
    let taken = c.in_ok-take_all.ensures in
    let handed = c.hand_over-handed.ensures in
    let more = asked_more c.args.told.now c.asked.result c.take_all.new.pipeline.told c.asked.ensures (rw c.in-Ok.ensures.told at taken.told) in
    (c.take_all.new.pipeline, taken.answers, more, ((handed.none, handed.same.0, handed.same.1, handed.same.2), handed.asked))
