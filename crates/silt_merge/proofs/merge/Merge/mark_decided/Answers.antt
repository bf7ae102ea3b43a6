use Rattle.silt_merge.proofs.Common.{ap, ◌∙◌, PieceState, MergeState}
use Rattle.silt_merge.proofs.Ending.{decided_held}
use Rattle.silt_merge.proofs.Viewing.{state_of}
use Rattle.silt_merge.proofs.merge.Merge.mark_decided.Goals as goal

pub invariant_of-self : goal.invariant_of-self
invariant_of-self c =
    let merge : MergeState = state_of c.self.inside in
    let all = rw (← c.self.view_is) at c.requires.gathered in
    let offered = rw (← c.self.view_is) at c.requires.offered in
    let room = rw (← c.self.view_is) at c.requires.room in
    rw (c.passed_after-self-inside.ensures, c.written_after-self-inside.ensures) (
      decided_held merge _ _ _ _ _ c.self.invariant.0 all offered room c.remove_waiting.ensures.gone c.remove_waiting.ensures.len c.remove_waiting.ensures.less,
      c.self.invariant.1,
      ap (λ (p : PieceState). p.len) c.pass.ensures ∙ c.self.invariant.2,
      c.self.invariant.3,
      c.self.invariant.4,
    )

pub returns-clause-held : goal.returns-clause-held
returns-clause-held c =
    let merge : MergeState = state_of c.self.inside in
    let all = rw (← c.self.view_is) at c.requires.gathered in
    let offered = rw (← c.self.view_is) at c.requires.offered in
    let room = rw (← c.self.view_is) at c.requires.room in
    rw (c.passed_after-self-inside.ensures, c.written_after-self-inside.ensures) (decided_held merge _ _ _ _ _ c.self.invariant.0 all offered room
    c.remove_waiting.ensures.gone c.remove_waiting.ensures.len c.remove_waiting.ensures.less)
