use Rattle.silt_merge.proofs.Common.{List, ℕ, sym, ap, ◌∙◌, MergeState, MatchResult-from_err}
use Rattle.silt_merge.proofs.Ending.{held_with, merged_with}
use Rattle.silt_merge.proofs.Viewing.{state_of}
use Rattle.silt_merge.proofs.merge.Merge.read_ahead.Goals as goal

pub invariant_of-self : goal.invariant_of-self
invariant_of-self g c = (held_with _ _ _ _ _ c.self.invariant.0.index c.self.invariant.0, c.self.invariant.1, c.read_entries.ensures.len ∙ c.self.invariant.2, c.self.invariant.3, c.self.invariant.4)

pub returns-in_err-read_entries-clause-state : goal.returns-in_err-read_entries-clause-state
returns-in_err-read_entries-clause-state g c =
    let merge : MergeState = state_of c.self.inside in
    rw (← c.self.view_is) (MatchResult-from_err _ _ _ c.from_residual.ensures.0
    (λ _. ap (λ (a : List (List ℕ)). let m : MergeState = record merge { ahead = a } in m) (c.in_err-read_entries.ensures.err ∙ sym (c.is_empty.ensures.none c.if-not-is_empty.false))))

pub returns-clause-before : goal.returns-clause-before
returns-clause-before g c = rw (← c.self.view_is) (sym (c.is_empty.ensures.none c.if-not-is_empty.false))

pub returns-clause-merged : goal.returns-clause-merged
returns-clause-merged g c =
    let merge : MergeState = state_of c.self.inside in
    rw (← c.self.view_is) (λ stores is. merged_with _ stores _ merge _ _ _ (λ honest same slots. slots) (λ honest was. c.in_ok-read_entries.ensures.entries honest) is)

pub invariant_of-self-2 : goal.invariant_of-self-2
invariant_of-self-2 g c = (held_with _ _ _ _ _ c.self.invariant.0.index c.self.invariant.0, c.self.invariant.1, c.read_entries.ensures.len ∙ c.self.invariant.2, c.self.invariant.3, c.self.invariant.4)

pub returns-clause-held : goal.returns-clause-held
returns-clause-held g c = held_with _ _ _ _ _ c.self.invariant.0.index c.self.invariant.0

pub returns-in_err-read_entries-clause-held : goal.returns-in_err-read_entries-clause-held
returns-in_err-read_entries-clause-held g c = held_with _ _ _ _ _ c.self.invariant.0.index c.self.invariant.0
