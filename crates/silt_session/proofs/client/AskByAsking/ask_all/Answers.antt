use Rattle.silt_session.proofs.Common.{inr, refl, sym, ◌∙◌}
use Rattle.silt_session.proofs.Clients.{given_all}
use Rattle.silt_session.proofs.client.AskByAsking.ask_all.Goals as goal

pub returns-clause-replies : goal.returns-clause-replies
returns-clause-replies g c =
    let events = c.args.events in
    let replies = c.in_ok-replies.replies in
    given_all (λ told. told.now) events.items c.all-given.result.0 c.all-given.result.1 c.args.self.now.told _
    (λ told given. g.G.Fn.post c.args.self.now.all.now (events, (told, tt)) (given, c.all-given.result.1)) (λ list. list.items) replies _ refl c.in_ok-replies.was c.all-given.ensures
    (sym replies.ok.0 ∙ sym c.len.ensures ∙ c.if-len-count.false ∙ c.len-count.ensures ∙ events.ok.0) (λ event reply told gave paired. inr (events, replies, gave, paired))
