use Rattle.silt_wire.proofs.Common.{◌≡◌, ◌++◌, ◌∙◌, ap, subst, List, ℕ, flat_map, string_bytes, on_ok_weaker, PlainReply, IsBeginning, line_of, on_err_weaker}
use Rattle.silt_wire.proofs.Answering.{all-events, some-events}
use Rattle.silt_wire.proofs.batch.Batch.answer.Goals as goal

pub returns-clause-all : goal.returns-clause-all
returns-clause-all g c =
    let answered = c.answer_all.ensures.answers in
    let is : c.deref.result.now ≡ answered.0 = c.deref.ensures.value ∙ answered.1 ∙ ap (λ (l : List PlainReply). l ++ answered.0) c.requires.none in
    on_ok_weaker c.push_replies.result
    (λ told. all-events g.A.Answerer.answers g.A.Answerer.administers _ _ c.args.self.events.items answered.0 _ _ answered.2
    (told ∙ ap (λ l. string_bytes c.args.texts.now ++ flat_map line_of l) is)) c.push_replies.ensures.ok

pub returns-clause-some : goal.returns-clause-some
returns-clause-some g c =
    let answered = c.answer_all.ensures.answers in
    let is : c.deref.result.now ≡ answered.0 = c.deref.ensures.value ∙ answered.1 ∙ ap (λ (l : List PlainReply). l ++ answered.0) c.requires.none in
    let P = λ (l : List PlainReply). (out : List ℕ) × IsBeginning out (flat_map line_of l) × (string_bytes c.push_replies.new.texts ≡ string_bytes c.args.texts.now ++ out) in
    on_err_weaker c.push_replies.result
    (λ told. some-events g.A.Answerer.answers g.A.Answerer.administers _ _ c.args.self.events.items answered.0 _ _ answered.2 (subst P is told)) c.push_replies.ensures.err
