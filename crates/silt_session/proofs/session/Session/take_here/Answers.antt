use Rattle.silt_session.proofs.Common.{◌+◌, ap, arith}
use denote.Param.Send.{sendable}
use Rattle.std.proofs.Crossing.{crosses}
use Rattle.silt_session.proofs.Pipelines.{room_kept, room_placed, settles_some, shows_one}
use Rattle.silt_session.proofs.session.Session.take_here.Goals as goal

pub push-requires : goal.push-requires
push-requires g c =
    let room = room_kept g.D.Disk g.T.Trace c.args.pipeline.now c.settle_for.new.pipeline 1 c.in_ok-settle_for.ensures.settled c.requires.room in
    (search (sendable, crosses) depth 20, (search (sendable, crosses) depth 20, (search (sendable, crosses) depth 20, omega (arith, room.1))))

pub returns-clause-answers : goal.returns-clause-answers
returns-clause-answers g c =
    let settled = c.in_ok-settle_for.ensures in
    let same = c.push.ensures.same in
    λ events some.
    shows_one g.D.Disk _ g.T.Trace events c.args.event.now c.settle_for.new.pipeline c.push.new.self c.answer_here.result settled.free c.answer_here.ensures c.push.ensures.places
    (ap (λ p. p.replies) same) (ap (λ p. p.told) same) (ap (λ p. p.marks) same)
    (ap (λ p. p.tasks) same) (ap (λ p. p.lacks_memory) same)
    (settles_some g.D.Disk _ g.T.Trace events c.args.pipeline.now c.settle_for.new.pipeline settled.settled some)

pub returns-clause-room : goal.returns-clause-room
returns-clause-room g c =
    λ n room.
    room_placed c.settle_for.new.pipeline c.push.new.self _ n (ap (λ p. p.replies) c.push.ensures.same) c.push.ensures.places c.push.ensures.room
    (room_kept g.D.Disk g.T.Trace c.args.pipeline.now c.settle_for.new.pipeline (n + 1) c.in_ok-settle_for.ensures.settled room)
