use Rattle.silt_session.proofs.Common.{◌∙◌, ap, inr, length, sym, slice_get}
use Rattle.silt_session.proofs.Clients.{zip_places}
use Rattle.silt_session.proofs.set.AskAheadByAskingAhead.finish.Goals as goal

pub returns : goal.returns
returns g c = λ events was.
    let (all, began, same, count) = was in
    let replies = c.in_ok-replies.replies in
    zip_places _ events replies.items (sym replies.ok.0 ∙ sym c.len.ensures ∙ c.if-len-count.false ∙ count ∙ all.ok.0 ∙ ap length same)
    (λ i event reply at_event at_reply. inr (all, c.args.asked.asked, replies, began, c.in_ok-replies.ensures, (i, ap (λ l. slice_get l i) same ∙ at_event, at_reply)))
