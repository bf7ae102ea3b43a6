use Rattle.silt_resp.proofs.Common.{◌<◌, ◌++◌, ◌∙◌, ap, append_assoc, arith, drop, length, rules, due_seen, part_text, part_texts}
use Rattle.std.proofs.Common.{map}
use Rattle.silt_event.specs.Queries.{replies as replied}
use Rattle.silt_resp.proofs.Doing.{due_more, on-err}
use Rattle.silt_resp.proofs.batch.push_dues.Goals as goal

pub returns-in_err-push_due-clause-err : goal.returns-in_err-push_due-clause-err
returns-in_err-push_due-clause-err c =
    let i = c.loop-due.invariant in
    let rest = part_texts (map due_seen (drop c.loop-due.due-index c.args.dues.now)) (map replied c.loop-due.rest.now) in
    on-err c.from_residual.result (i.0, (rest, i.2), c.in_err-push_due.ensures.err ∙ i.1)

pub loop-due-preserved : goal.loop-due-preserved
loop-due-preserved c =
    let i = c.loop-due.invariant in
    let text = part_text (due_seen c.due-item.result) (map replied c.split_at.result.0.now) in
    let within : c.loop-due.due-index < length c.args.dues.now = omega arith in (
      i.0 ++ text,
      c.in_ok-push_due.ensures.ok ∙ ap (λ l. l ++ text) i.1 ∙ append_assoc c.args.texts.now.items i.0 text,
      due_more c.args.dues.now c.loop-due.due-index c.due-item.result c.loop-due.rest.now c.split_at.result.0.now c.split_at.result.1.now i.0
          (part_texts (map due_seen c.args.dues.now) (map replied c.args.replies.now)) within c.due-item.is (search rules) (search rules) i.2,
    )
