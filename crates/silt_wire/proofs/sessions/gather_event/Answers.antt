use Rattle.silt_wire.proofs.Common.{Ok, sym, ◌∙◌, does}
use Rattle.silt_wire.proofs.Answering.{asked-event, asks-live, gathers-event, query-event}
use Rattle.silt_wire.proofs.sessions.gather_event.Goals as goal

pub returns-in_ok-push-in-Ok-clause-all : goal.returns-in_ok-push-in-Ok-clause-all
returns-in_ok-push-in-Ok-clause-all c = λ line h.
    let event = c.in-Ok.event in
    let query = query-event c.args.value_len line (Ok (does event)) (sym (c.admin.ensures line h) ∙ c.in_default.is) (asked-event _ event (c.in-Ok.ensures.asked line h)) in
    gathers-event c.args.batch.now.events.items c.push.new.self.events.items event _
    (asks-live c.args.value_len line (Ok (does event)) (sym (c.is_blank.ensures line h) ∙ c.if-is_blank.false) query)
    c.in_ok-push-in-Ok.ensures.ok
