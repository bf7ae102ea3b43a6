use Rattle.silt_store_set.proofs.Common.{true, false}
use Rattle.std.proofs.lemmas.Result.{err_from_is_err_and}
use Rattle.silt_store_set.proofs.Swaps.{swap_differs, swap_unread}
use Rattle.silt_store_set.proofs.Calls.{refused_failed}
use Rattle.silt_store_set.proofs.store_core.Core.swap.Goals as goal

pub returns-then-self : goal.returns-then-self
returns-then-self g c = rw (← c.self.view_is) (refused_failed g.D.Disk _ _ c.if-self.true c.if-self.true)

pub returns-in_err-holds : goal.returns-in_err-holds
returns-in_err-holds g c =
    let refused = err_from_is_err_and c.from_residual.result c.from_residual.ensures.1 in
    let fault = rw (← c.self.view_is, c.if-self.false) at c.in_err-holds.ensures.fault in
    rw (refused.1, refused.2, ← c.self.view_is, c.if-self.false) (swap_unread g.D.Disk _ _ _ _ (c.self.invariant.stands c.if-self.false) _ _ c.in_err-holds.field-0.0 fault)

pub returns-then-not-branch : goal.returns-then-not-branch
returns-then-not-branch g c =
    let holds = rw (← c.self.view_is) at c.in_ok-holds.ensures.holds in
    rw (← c.self.view_is, c.if-self.false) (swap_differs g.D.Disk _ _ _ _ (c.self.invariant.stands c.if-self.false) _ _ (λ h has. let no = (holds h).1 has in cc))
