use Rattle.silt_session.proofs.Common.{◌∙◌, ◌++◌, ap, sym, requests_of, IsToldMore, flush_if}
use Rattle.silt_session.proofs.Pipelines.{filled_settles, told_none}
use Rattle.silt_session.proofs.pipeline.Pipeline.fill_by.Goals as goal

pub returns-in-Ok : goal.returns-in-Ok
returns-in-Ok g c = λ before is hands.
    let learnt = c.learn.ensures in
    let more : IsToldMore before.told c.learn.new.self.told = rw is.3 at learnt.told in
    let stays = learnt.next ∙ ap (λ s. s.next) is.3 in
    filled_settles g.D.Disk g.T.Trace before c.learn.new.self c.fill.new.self (told_none c.args.self.now c.learn.new.self learnt.same is.0)
    (ap (λ p. p.replies) learnt.same ∙ is.1, ap (λ p. p.places) learnt.same ∙ is.2) more stays c.fill.result c.args.handed.has_flush c.in-Ok.tasks.items
    (hands.0, c.in-Ok.ensures _ hands.2 ∙ ap (λ b. requests_of before.tasks.items ++ flush_if b) (sym hands.1)) c.fill.ensures.replies c.fill.ensures.moved
