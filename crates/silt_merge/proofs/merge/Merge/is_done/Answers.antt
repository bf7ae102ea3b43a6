use Rattle.silt_merge.proofs.Common.{ap, ◌∙◌, arith, MergeState, nat_le}
use Rattle.silt_merge.proofs.Ending.{done_steps, entries_decide, not_decided, not_gathered}
use Rattle.silt_merge.proofs.Viewing.{state_of}
use Rattle.silt_merge.proofs.merge.Merge.is_done.Goals as goal

pub returns-then-not-is_empty-clause-steps : goal.returns-then-not-is_empty-clause-steps
returns-then-not-is_empty-clause-steps c =
    let merge : MergeState = state_of c.self.inside in
    rw (← c.self.view_is) (λ content stores is honest sound.
    done_steps merge c.args.sorted.now content stores _ (not_decided merge c.args.sorted.now (λ none. let full = c.is_empty.ensures.1 none in absurd (cc))) c.self.invariant.0 is honest sound)

pub returns-clause-steps : goal.returns-clause-steps
returns-clause-steps c =
    let merge : MergeState = state_of c.self.inside in
    rw (← c.self.view_is) (λ content stores is honest sound. done_steps merge c.args.sorted.now content stores _ (ap (λ n. nat_le n c.self.inside.passed) c.len.ensures.value
    ∙ entries_decide merge c.args.sorted.now (omega (arith, c.self.invariant.0.store)) (c.is_empty.ensures.0 c.if-not-is_empty.false)) c.self.invariant.0 is honest sound)

pub returns-then-self-clause-steps : goal.returns-then-self-clause-steps
returns-then-self-clause-steps c =
    let merge : MergeState = state_of c.self.inside in
    rw (← c.self.view_is) (λ content stores is honest sound.
    done_steps merge c.args.sorted.now content stores _ (not_gathered merge c.args.sorted.now c.if-self.true) c.self.invariant.0 is honest sound)
