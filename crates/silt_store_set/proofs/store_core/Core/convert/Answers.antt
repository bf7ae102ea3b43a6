use Rattle.silt_store_set.proofs.Common.{arith}
use Rattle.silt_store_set.proofs.Calls.{core_broke, core_went, refused_failed}
use Rattle.silt_store_set.proofs.Converts.{not_stepped, stepped}
use Rattle.silt_engine.specs.declared.conversion.ConvertError.TheVariants as error
use Rattle.silt_store_set.proofs.store_core.Core.convert.Goals as goal

pub returns-then-self : goal.returns-then-self
returns-then-self g c = rw (← c.self.view_is) (refused_failed g.D.Disk _ _ c.if-self.true c.if-self.true)

pub returns-in-Ok : goal.returns-in-Ok
returns-in-Ok g c =
    rw (← c.self.view_is, c.if-self.false) (stepped g.D.Disk _ _ _ (c.self.invariant.stands c.if-self.false) _ _ _ c.in-Ok.ensures.works c.in-Ok.ensures.converts
    c.in-Ok.ensures.rows c.in-Ok.ensures.quiet)

pub returns-in-Err-Write : goal.returns-in-Err-Write
returns-in-Err-Write g c =
    rw (← c.self.view_is, c.if-self.false, c.of-basis.ensures) (not_stepped g.D.Disk _ _ _ (c.self.invariant.stands c.if-self.false) _ _ (error.Write c.in-Err-Write.fault)
    (rw c.in-Err-Write.field-0-is at c.in-Err-Write.ensures.works) (rw c.in-Err-Write.field-0-is at c.in-Err-Write.ensures.err))

pub returns-in-Err-Read : goal.returns-in-Err-Read
returns-in-Err-Read g c =
    rw (← c.self.view_is, c.if-self.false) (not_stepped g.D.Disk _ _ _ (c.self.invariant.stands c.if-self.false) _ _ (error.Read c.in-Err-Read.fault)
    (rw c.in-Err-Read.field-0-is at c.in-Err-Read.ensures.works) (rw c.in-Err-Read.field-0-is at c.in-Err-Read.ensures.err))

pub returns-in-Err-Spent : goal.returns-in-Err-Spent
returns-in-Err-Spent g c =
    rw (← c.self.view_is, c.if-self.false) (not_stepped g.D.Disk _ _ _ (c.self.invariant.stands c.if-self.false) _ _ error.Spent
    (rw c.in-Err-Spent.field-0-is at c.in-Err-Spent.ensures.works) (rw c.in-Err-Spent.field-0-is at c.in-Err-Spent.ensures.err))

pub returns-in-Err-NoMemory : goal.returns-in-Err-NoMemory
returns-in-Err-NoMemory g c =
    rw (← c.self.view_is, c.if-self.false) (not_stepped g.D.Disk _ _ _ (c.self.invariant.stands c.if-self.false) _ _ error.NoMemory
    (rw c.in-Err-NoMemory.field-0-is at c.in-Err-NoMemory.ensures.works) (rw c.in-Err-NoMemory.field-0-is at c.in-Err-NoMemory.ensures.err))

pub invariant_of-self-in-Err-Write : goal.invariant_of-self-in-Err-Write
invariant_of-self-in-Err-Write g c =
    rw c.of-basis.ensures (core_broke g.D.Disk _ _ _ _ _ _ _ _ _ _ _ c.self.invariant c.if-self.false _ _ c.in-Err-Write.ensures.works
    (rw c.in-Err-Write.field-0-is at c.in-Err-Write.ensures.err).1)

pub invariant_of-self : goal.invariant_of-self
invariant_of-self g c = core_went g.D.Disk _ _ _ _ _ _ _ _ _ _ _ c.self.invariant c.if-self.false _ _ c.in-Ok.ensures.works (omega arith) c.self.invariant.count_most

pub invariant_of-self-in-Err-Read : goal.invariant_of-self-in-Err-Read
invariant_of-self-in-Err-Read g c = let err = rw c.in-Err-Read.field-0-is at c.in-Err-Read.ensures.err in rw (err.1, err.0) c.self.invariant

pub invariant_of-self-in-Err-Spent : goal.invariant_of-self-in-Err-Spent
invariant_of-self-in-Err-Spent g c = let err = rw c.in-Err-Spent.field-0-is at c.in-Err-Spent.ensures.err in rw (err.1, err.0) c.self.invariant

pub invariant_of-self-in-Err-NoMemory : goal.invariant_of-self-in-Err-NoMemory
invariant_of-self-in-Err-NoMemory g c = let err = rw c.in-Err-NoMemory.field-0-is at c.in-Err-NoMemory.ensures.err in rw (err.1, err.0) c.self.invariant
