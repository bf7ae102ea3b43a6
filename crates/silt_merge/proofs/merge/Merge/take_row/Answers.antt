use Rattle.silt_merge.proofs.Common.{◌≡◌, ◌*◌, ap, ◌∙◌, PieceState, MergeState, slot_after}
use Rattle.silt_merge.proofs.Stepping.{gathered_held}
use Rattle.silt_merge.proofs.Viewing.{state_of}
use Rattle.silt_merge.proofs.merge.Merge.take_row.Goals as goal

pub invariant_of-self-2 : goal.invariant_of-self-2
invariant_of-self-2 c =
    let merge : MergeState = state_of c.self.inside in
    let below = rw (← c.self.view_is) at c.requires.more in
    let next : c.slot_after.result ≡ slot_after merge.store merge.slot (4 * merge.shape.buckets) = cc (c.slot_after.ensures, c.buckets-slots.ensures.value) in (
      gathered_held merge _ _ c.slot_after.result _ _ c.self.invariant.0 below c.in_default.ensures.ok c.in_default.ensures.len next,
      ap (λ (p : PieceState). p.len) c.pass.ensures ∙ c.self.invariant.1,
      c.self.invariant.2,
      c.self.invariant.3,
      c.self.invariant.4,
    )

pub returns-clause-held : goal.returns-clause-held
returns-clause-held c =
    let merge : MergeState = state_of c.self.inside in
    let below = rw (← c.self.view_is) at c.requires.more in
    let next : c.slot_after.result ≡ slot_after merge.store merge.slot (4 * merge.shape.buckets) = cc (c.slot_after.ensures, c.buckets-slots.ensures.value) in
    gathered_held merge _ _ c.slot_after.result _ _ c.self.invariant.0 below c.in_default.ensures.ok c.in_default.ensures.len next
