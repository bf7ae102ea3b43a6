use Rattle.silt_session.proofs.Common.{◌≢◌, [], ap, arith, length, ◌∙◌, replicate, AllZip-long, reply_without}
use Rattle.silt_session.specs.declared.unanswered.Unanswered.TheVariants.{Lost}
use Rattle.silt_session.proofs.Clients.{given_each, lost_each, without_each}
use Rattle.silt_session.proofs.client.Client.ask_all.Goals as goal

pub append-requires : goal.append-requires
append-requires g c =
    let long = AllZip-long _ c.args.events.items c.in-Ok.given.items c.in-Ok.ensures.replies in
    omega (arith, c.requires, long, c.args.events.ok.0, c.in-Ok.given.ok.0)

pub returns-then-self-clause-answers : goal.returns-then-self-clause-answers
returns-then-self-clause-answers g c =
    let events = c.args.events in
    let count = c.len-count.ensures ∙ events.ok.0 in
    rw (← c.self.view_is) (
      replicate c.len-count.result (reply_without Lost),
      c.reply_to.ensures.items,
      rw count (lost_each g.A.Asking.gives _ events.items c.if-self.true),
    )

pub returns-in-Ok-clause-answers : goal.returns-in-Ok-clause-answers
returns-in-Ok-clause-answers g c =
    let events = c.args.events in
    let some : events.items ≢ [] = λ is. c.if-count-eq0.false (c.len-count.ensures ∙ events.ok.0 ∙ ap length is) in
    rw (← c.self.view_is) (
      c.in-Ok.given.items,
      c.append.ensures,
      given_each g.A.Asking.gives (λ a b e r. g.met.A.Asking.gives_in a b e r) _ _ events.items c.in-Ok.given.items some c.in-Ok.ensures.replies,
    )

pub returns-in-Err-clause-answers : goal.returns-in-Err-clause-answers
returns-in-Err-clause-answers g c =
    let events = c.args.events in
    let lack = c.in-Err.lack in
    let count = c.len-count.ensures ∙ events.ok.0 in
    let some : events.items ≢ [] = λ is. c.if-count-eq0.false (count ∙ ap length is) in (
      replicate c.len-count.result (reply_without lack),
      c.reply_to-in-Err.ensures.items,
      rw count
          (without_each g.A.Asking.gives c.args.self.now _ c.note.new.self events.items lack some c.note.ensures.without),
    )
