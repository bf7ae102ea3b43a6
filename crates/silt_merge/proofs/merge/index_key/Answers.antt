use Rattle.silt_merge.proofs.Common.{◌≡◌, true, Ok, ap, ◌∙◌}
use Rattle.silt_merge.proofs.merge.index_key.Goals as goal

pub returns-then-not-is_due-clause-index : goal.returns-then-not-is_due-clause-index
returns-then-not-is_due-clause-index c = rw c.if-not-is_due.true (λ keys built counted above. built)

pub returns-clause-index : goal.returns-clause-index
returns-clause-index c = λ keys built counted above.
    let taken : c.in_ok-push.field-0 ≡ true = c.in_ok-push.ensures.taken ∙ above in
    rw c.if-not-is_due.false (c.push.ensures.built (c.in_ok-push.was ∙ ap Ok taken) keys built)
