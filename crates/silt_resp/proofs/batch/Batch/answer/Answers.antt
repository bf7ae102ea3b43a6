use Rattle.silt_resp.proofs.Common.{◌∙◌, Some, AnswersQuery, IsBeginning-all, due_seen, part_texts}
use Rattle.std.proofs.Common.{map}
use Rattle.std.proofs.lemmas.Result.{on_err_weaker, on_ok_weaker}
use Rattle.silt_event.specs.Queries.{replies as replied}
use Rattle.silt_resp.proofs.Doing.{all-batch, none-batch, on-err, some-batch}
use Rattle.silt_resp.proofs.batch.Batch.answer.Goals as goal

pub returns-in_err-replies-clause-some : goal.returns-in_err-replies-clause-some
returns-in_err-replies-clause-some g c =
    on-err c.from_residual.result (λ asked h. none-batch (AnswersQuery g.A.Answerer.answers g.A.Answerer.administers) asked c.args.answerer.now (Some c.args.texts.now.items))

pub returns-in_err-push_dues-clause-some : goal.returns-in_err-push_dues-clause-some
returns-in_err-push_dues-clause-some g c =
    let answered = c.answer_events.ensures.answers in
    let told = rw (c.deref.ensures.value, c.deref-2.ensures.value, answered.1, c.in_ok-replies.ensures.items) at c.in_err-push_dues.ensures.err in
    let text = c.args.texts.now.items in
    on-err c.from_residual-in_err-push_dues.result (λ asked h. some-batch g.A.Answerer.answers g.A.Answerer.administers c.args.self asked _ _ answered.0 c.administered-reply.result text
    c.push_dues.new.texts.items h answered.2 c.administered-reply.ensures told)

pub returns-clause-all : goal.returns-clause-all
returns-clause-all g c =
    let answered = c.answer_events.ensures.answers in
    let told = rw (c.deref.ensures.value, c.deref-2.ensures.value, answered.1, c.in_ok-replies.ensures.items) at c.in_ok-push_dues.ensures.ok in
    let text = c.args.texts.now.items in
    on_ok_weaker c.push_tail.result (λ last asked h. all-batch g.A.Answerer.answers g.A.Answerer.administers c.args.self asked _ _ answered.0 c.administered-reply.result text
    c.push_dues.new.texts.items c.push_tail.new.texts.items h answered.2 c.administered-reply.ensures told last) c.push_tail.ensures.ok

pub returns-clause-some : goal.returns-clause-some
returns-clause-some g c =
    let answered = c.answer_events.ensures.answers in
    let told = rw (c.deref.ensures.value, c.deref-2.ensures.value, answered.1, c.in_ok-replies.ensures.items) at c.in_ok-push_dues.ensures.ok in
    let text = c.args.texts.now.items in
    let texts = part_texts (map due_seen c.args.self.dues.items) (map replied answered.0) in
    on_err_weaker c.push_tail.result (λ same asked h. some-batch g.A.Answerer.answers g.A.Answerer.administers c.args.self asked _ _ answered.0 c.administered-reply.result text
    c.push_tail.new.texts.items h answered.2 c.administered-reply.ensures (texts, IsBeginning-all texts, same ∙ told)) c.push_tail.ensures.err
