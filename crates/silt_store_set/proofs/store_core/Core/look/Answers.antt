use Rattle.silt_store_set.proofs.Gets.{get_answered, get_faulted, get_kept}
use Rattle.silt_store_set.proofs.Calls.{refused_failed}
use Rattle.silt_store_set.proofs.store_core.Core.look.Goals as goal

pub returns-then-self-clause-reply : goal.returns-then-self-clause-reply
returns-then-self-clause-reply g c = rw (← c.self.view_is) (refused_failed g.D.Disk _ _ c.if-self.true c.if-self.true)

pub returns-in-Ok-clause-reply : goal.returns-in-Ok-clause-reply
returns-in-Ok-clause-reply g c =
    let stands = c.self.invariant.stands c.if-self.false in
    rw (← c.self.view_is, c.if-self.false) (get_answered g.D.Disk _ _ _ _ stands c.in-Ok.lookup.found c.look_up.new.out (c.in-Ok.ensures.found stands) (c.in-Ok.ensures.none stands))

pub returns-in-Ok-clause-settled : goal.returns-in-Ok-clause-settled
returns-in-Ok-clause-settled g c = rw (← c.self.view_is, c.if-self.false) (c.in-Ok.ensures.settled (c.self.invariant.stands c.if-self.false))

pub returns-in-Ok-clause-kept : goal.returns-in-Ok-clause-kept
returns-in-Ok-clause-kept g c =
    let stands = c.self.invariant.stands c.if-self.false in
    rw (← c.self.view_is, c.if-self.false) (get_kept g.D.Disk _ _ c.self.inside.count _ stands c.in-Ok.lookup.found c.in-Ok.lookup.is_settled c.look_up.new.out
    (c.in-Ok.ensures.found stands) (c.in-Ok.ensures.none stands) (c.in-Ok.ensures.settled stands))

pub returns-in-Err-clause-reply : goal.returns-in-Err-clause-reply
returns-in-Err-clause-reply g c = rw (← c.self.view_is, c.if-self.false) (get_faulted g.D.Disk _ _ _ _ (c.self.invariant.stands c.if-self.false) c.in-Err.fault c.in-Err.ensures.fault)
