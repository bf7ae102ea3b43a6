use Rattle.silt_session.proofs.Common.{ap, TaskState, asked_event, IsToldBetween, PlainReply, option_map, IsReplyOf, Placed}
use Rattle.silt_session.proofs.Tolds.{shows_then}
use Rattle.silt_session.proofs.task.Task.tell.Goals as goal

pub returns-clause-reply : goal.returns-clause-reply
returns-clause-reply g c =
    let placed = c.in_ok-reply.field-0 in
    let inside = c.self.inside in
    let reply = option_map (λ (p : Placed). p.reply) inside.reply in
    let task : TaskState = record { session = inside.session; request = inside.request; answer = inside.answer; reply = reply } in
    rw (← c.self.view_is)
    (shows_then (IsReplyOf g.D.Disk g.T.Trace c.args.told.now task) c.stands.result placed.reply c.then_some.result c.then_some.ensures
    (λ stands. (
      ap (option_map (λ (p : Placed). p.reply)) c.in_ok-reply.was,
      (
        rw c.in_ok-reply.was at c.self.invariant.1,
        c.stands.ensures.told stands,
      ),
    )))

pub returns-clause-place : goal.returns-clause-place
returns-clause-place g c =
    let told = c.args.told.now in
    rw (← c.self.view_is)
    (shows_then (λ (reply : PlainReply). IsToldBetween told told.next (asked_event c.self.inside.request) reply c.stands.new.told.next)
    c.stands.result c.in_ok-reply.field-0.reply c.then_some.result c.then_some.ensures c.stands.ensures.place)
