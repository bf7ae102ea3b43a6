use Rattle.silt_wire.proofs.Common.{[], ◌∷◌, Some, string_bytes, subst, sym, on_ok_weaker, AnswersQuery, tail_asked, Tail, AnswersAll, OnOk}
use Rattle.silt_wire.proofs.Answering.{all-admin}
use Rattle.silt_wire.proofs.batch.push_tail.Goals as goal

pub returns-in-Admin-clause-ok : goal.returns-in-Admin-clause-ok
returns-in-Admin-clause-ok g c =
    let answerer = c.args.answerer.now in
    let before = string_bytes c.args.texts.now in
    let after = string_bytes c.push_admin.new.texts in
    let P = λ (tail : Tail). OnOk c.push_admin.result
    (AnswersAll (AnswersQuery g.A.Answerer.answers g.A.Answerer.administers) (tail_asked tail ∷ []) answerer answerer (Some before) (Some after)) in
    subst P (sym c.in-Admin.is)
    (on_ok_weaker c.push_admin.result (λ told. all-admin g.A.Answerer.answers g.A.Answerer.administers answerer c.in-Admin.admin
    c.administer.result before after c.administer.ensures told) c.push_admin.ensures.ok)
