use Rattle.silt_resp.proofs.Common.{[], Some, AnswersQuery, asked_after}
use Rattle.silt_resp.proofs.Doing.{if-ok, on-err, some-begun, some-from_all}
use Rattle.silt_resp.proofs.session.take_part.Goals as goal

pub returns-in_err-answer-clause-some : goal.returns-in_err-answer-clause-some
returns-in_err-answer-clause-some g c = on-err c.from_residual.result (λ client h.
    let part = c.gather-gathered.ensures.some client h [] c.new-batch.ensures.empty in
    some-begun (AnswersQuery g.A.Answerer.answers g.A.Answerer.administers) part.0 (asked_after c.args.settings.now client c.args.bytes.now) _ _ (Some c.args.texts.now.items)
    (Some c.answer.new.texts.items) part.1 (c.in_err-answer.ensures.some part.0 part.2))

pub returns-clause-all : goal.returns-clause-all
returns-clause-all g c = if-ok c.gather-gathered.result (λ gathered all client h. c.in_ok-answer.ensures.all _ (all client h [] c.new-batch.ensures.empty)) c.gather-gathered.ensures.all

pub returns-clause-some : goal.returns-clause-some
returns-clause-some g c = on-err c.gather-gathered.result (λ client h.
    let part = c.gather-gathered.ensures.some client h [] c.new-batch.ensures.empty in
    some-begun (AnswersQuery g.A.Answerer.answers g.A.Answerer.administers) part.0 (asked_after c.args.settings.now client c.args.bytes.now) _ _ (Some c.args.texts.now.items)
    (Some c.answer.new.texts.items) part.1 (some-from_all (AnswersQuery g.A.Answerer.answers g.A.Answerer.administers) part.0 _ _ (Some c.args.texts.now.items) (Some c.answer.new.texts.items)
    (c.in_ok-answer.ensures.all part.0 part.2)))
