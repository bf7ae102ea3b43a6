use Rattle.silt_store_set.proofs.Common.{Ok, Some, ap, sym, ◌∙◌}
use Rattle.silt_store_set.proofs.Gets.{get_absent, get_found, get_faulted, get_refused}
use Rattle.silt_store_set.proofs.Calls.{refused_failed}
use Rattle.silt_store_set.proofs.store_core.Core.read.Goals as goal

pub returns-then-self : goal.returns-then-self
returns-then-self g c = rw (← c.self.view_is) (refused_failed g.D.Disk _ _ c.if-self.true c.if-self.true)

pub returns-in-Ok-false : goal.returns-in-Ok-false
returns-in-Ok-false g c =
    let stands = c.self.invariant.stands c.if-self.false in
    rw (← c.self.view_is, c.if-self.false) (get_absent g.D.Disk _ _ _ _ stands (c.in-Ok-false.ensures.none stands (ap Ok c.in-Ok-false.field-0-test)))

pub returns-in-Ok : goal.returns-in-Ok
returns-in-Ok g c =
    let stands = c.self.invariant.stands c.if-self.false in
    rw (← c.self.view_is, c.if-self.false) (get_found g.D.Disk _ _ _ _ stands c.in-Ok.value
    (λ h. c.in-Ok-true.ensures.found stands (ap Ok c.in-Ok-true.field-0-test) h ∙ ap Some (sym c.in-Ok.ensures)))

pub returns-in-Err-copied : goal.returns-in-Err-copied
returns-in-Err-copied g c =
    let stands = c.self.invariant.stands c.if-self.false in
    rw (← c.self.view_is, c.if-self.false) (get_refused g.D.Disk _ _ _ _ stands _ c.get.new.out (c.in-Ok-true.ensures.found stands (ap Ok c.in-Ok-true.field-0-test)) tt)

pub returns-in-Err : goal.returns-in-Err
returns-in-Err g c = rw (← c.self.view_is, c.if-self.false) (get_faulted g.D.Disk _ _ _ _ (c.self.invariant.stands c.if-self.false) c.in-Err.fault c.in-Err.ensures.fault)
