use Rattle.silt_store_set.proofs.Common.{arith}
use Rattle.silt_store_set.proofs.Calls.{core_broke, core_went, refused_failed}
use Rattle.silt_store_set.proofs.Flushes.{flushed, flush_broke}
use Rattle.silt_store_set.proofs.store_core.Core.flush.Goals as goal

pub returns-then-self : goal.returns-then-self
returns-then-self g c = rw (← c.self.view_is) (refused_failed g.D.Disk _ _ c.if-self.true c.if-self.true)

pub returns-in-Ok : goal.returns-in-Ok
returns-in-Ok g c =
    rw (← c.self.view_is, c.if-self.false) (flushed g.D.Disk _ _ _ (c.self.invariant.stands c.if-self.false) _ _ _
    c.in-Ok.ensures.works c.in-Ok.ensures.quiet c.flush.ensures.others c.flush.ensures.idle)

pub returns-in-Err : goal.returns-in-Err
returns-in-Err g c =
    rw (← c.self.view_is, c.if-self.false, c.of-basis.ensures) (flush_broke g.D.Disk _ _ _ (c.self.invariant.stands c.if-self.false) _ _ _ c.in-Err.ensures.works c.in-Err.ensures.err)

pub invariant_of-self-in-Err : goal.invariant_of-self-in-Err
invariant_of-self-in-Err g c = rw c.of-basis.ensures (core_broke g.D.Disk _ _ _ _ _ _ _ _ _ _ _ c.self.invariant c.if-self.false _ _ c.in-Err.ensures.works c.in-Err.ensures.err)

pub invariant_of-self : goal.invariant_of-self
invariant_of-self g c = core_went g.D.Disk _ _ _ _ _ _ _ _ _ _ _ c.self.invariant c.if-self.false _ _ c.in-Ok.ensures.works (omega arith) c.self.invariant.count_most
