use Rattle.silt_wire.proofs.Common.{◌∙◌, ◌++◌, Some, ap, string_bytes, subst, sym, AnswersQuery, tail_after, requests, AnswersAll}
use Rattle.silt_wire.proofs.Answering.{all-tail, begins-only, gathered-only, on-err, some-begun, some-from_all}
use Rattle.silt_wire.proofs.sessions.take_part.Goals as goal

pub gather-gathered-requires-clause-ready : goal.gather-gathered-requires-clause-ready
gather-gathered-requires-clause-ready g c = c.new-batch.ensures.ready c.args.value_len

pub returns-in_err-answer-clause-some : goal.returns-in_err-answer-clause-some
returns-in_err-answer-clause-some g c =
    on-err c.from_residual.result (λ p h.
    some-begun (AnswersQuery g.A.Answerer.answers g.A.Answerer.administers) (requests c.gather-gathered.new.batch) _ _ _ (Some (string_bytes c.args.texts.now)) (Some (string_bytes c.answer.new.texts))
    (begins-only c.new-batch.result.events.items _ _ c.new-batch.ensures.empty (c.gather-gathered.ensures.some p h)) c.in_err-answer.ensures.some)

pub returns-in_err-gathered-clause-some : goal.returns-in_err-gathered-clause-some
returns-in_err-gathered-clause-some g c =
    on-err c.from_residual-in_err-gathered.result (λ p h.
    some-begun (AnswersQuery g.A.Answerer.answers g.A.Answerer.administers) (requests c.gather-gathered.new.batch) _ _ _ (Some (string_bytes c.args.texts.now)) (Some (string_bytes c.answer.new.texts))
    (begins-only c.new-batch.result.events.items _ _ c.new-batch.ensures.empty (c.gather-gathered.ensures.some p h))
    (some-from_all (AnswersQuery g.A.Answerer.answers g.A.Answerer.administers) _ _ _ (Some (string_bytes c.args.texts.now)) (Some (string_bytes c.answer.new.texts)) c.in_ok-answer.ensures.all))

pub returns-in_err-push_tail-clause-some : goal.returns-in_err-push_tail-clause-some
returns-in_err-push_tail-clause-some g c =
    let answered = subst (λ t. AnswersAll (AnswersQuery g.A.Answerer.answers g.A.Answerer.administers) (requests c.gather-gathered.new.batch)
    c.args.answerer.now c.answer.new.answerer (Some (string_bytes c.args.texts.now)) (Some t))
    (sym c.in_err-push_tail.ensures.err) c.in_ok-answer.ensures.all in
    on-err c.from_residual-in_err-push_tail.result (λ p h.
    some-begun (AnswersQuery g.A.Answerer.answers g.A.Answerer.administers) (requests c.gather-gathered.new.batch) _ _ _
    (Some (string_bytes c.args.texts.now)) (Some (string_bytes c.push_tail.new.texts))
    (begins-only c.new-batch.result.events.items _ _ c.new-batch.ensures.empty (c.gather-gathered.ensures.some p h))
    (some-from_all (AnswersQuery g.A.Answerer.answers g.A.Answerer.administers) _ _ _ (Some (string_bytes c.args.texts.now)) (Some (string_bytes c.push_tail.new.texts)) answered))

pub returns-in_ok-push_tail-clause-all : goal.returns-in_ok-push_tail-clause-all
returns-in_ok-push_tail-clause-all g c = λ p h.
    all-tail (AnswersQuery g.A.Answerer.answers g.A.Answerer.administers) _ (requests c.gather-gathered.new.batch) c.in-Some.tail
    _ _ (string_bytes c.args.texts.now) (string_bytes c.answer.new.texts) (string_bytes c.push_tail.new.texts)
    (gathered-only c.new-batch.result.events.items _ _ c.new-batch.ensures.empty (c.in_ok-gathered.ensures.all p h)
    ∙ ap (λ f. requests c.gather-gathered.new.batch ++ tail_after f) c.in-Some.is)
    c.in_ok-answer.ensures.all c.in_ok-push_tail.ensures.ok
