use Rattle.silt_session.proofs.Pipelines.{given_answers, requested_answers, shown_order}
use Rattle.silt_session.proofs.Tolds.{asked_more, starts_before}
use Rattle.silt_session.proofs.session.Session.answer.Goals as goal

pub returns-in-Ok-clause-told : goal.returns-in-Ok-clause-told
returns-in-Ok-clause-told g c = asked_more c.args.told.now c.asked.result c.request.new.told c.asked.ensures c.request.ensures.told

pub returns-in-Ok-clause-reply : goal.returns-in-Ok-clause-reply
returns-in-Ok-clause-reply g c = requested_answers g.D.Disk g.T.Trace c.request.new.told c.args.self.now.settles_gets c.in-Ok.request
    c.args.event c.request.result c.in-Ok.ensures c.request.ensures.reply

pub returns-in-Ok-clause-order : goal.returns-in-Ok-clause-order
returns-in-Ok-clause-order g c = rw c.in-Ok.ensures at c.request.ensures.order

pub returns-in-Err-clause-told : goal.returns-in-Err-clause-told
returns-in-Err-clause-told g c = asked_more c.args.told.now c.asked.result c.give.new.told c.asked.ensures c.give.ensures.told

pub returns-in-Err-clause-reply : goal.returns-in-Err-clause-reply
returns-in-Err-clause-reply g c =
    rw c.in-Err.ensures.0 at
    (given_answers g.D.Disk g.T.Trace c.give.new.told c.args.self.now.settles_gets c.in-Err.event c.answer_here.result c.give.result c.answer_here.ensures c.give.ensures.reply)

pub returns-in-Err-clause-order : goal.returns-in-Err-clause-order
returns-in-Err-clause-order g c =
    shown_order c.give.new.told c.args.event c.give.result (starts_before _ _ c.give.ensures.told c.asked.ensures.next) c.in-Err.ensures.1
