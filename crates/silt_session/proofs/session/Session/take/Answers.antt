use Rattle.silt_session.proofs.Pipelines.{gathers_one, room_placed}
use Rattle.silt_session.proofs.session.Session.take.Goals as goal

pub returns-in-Ok-clause-answers : goal.returns-in-Ok-clause-answers
returns-in-Ok-clause-answers g c =
    λ events some.
    gathers_one g.D.Disk _ g.T.Trace events c.args.event c.args.pipeline.now c.gather.new.self c.in-Ok.request c.in-Ok.ensures
    c.gather.ensures.same.0 c.gather.ensures.same.2 c.gather.ensures.places c.gather.ensures.marks
    c.gather.ensures.tasks some

pub returns-in-Ok-clause-room : goal.returns-in-Ok-clause-room
returns-in-Ok-clause-room g c =
    λ n room. room_placed c.args.pipeline.now c.gather.new.self _ n c.gather.ensures.same.0 c.gather.ensures.places c.gather.ensures.room room

pub returns-in-Err-clause-answers : goal.returns-in-Err-clause-answers
returns-in-Err-clause-answers g c =
    rw c.in-Err.ensures.0 at c.take_here.ensures.answers
