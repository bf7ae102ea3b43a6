use Rattle.silt_store_set.proofs.Common.{arith}
use Rattle.silt_store_set.proofs.Calls.{core_broke, core_went}
use Rattle.silt_store_set.proofs.Rows.{least_logs, may_count, may_working, row_taken, row_refused}
use Rattle.silt_engine.specs.declared.row_write.WriteError.TheVariants as error
use Rattle.silt_store_set.proofs.store_core.Core.write_row.Goals as goal

pub returns-in-Ok : goal.returns-in-Ok
returns-in-Ok g c =
    let working = rw (← c.self.view_is) at (may_working c.args.kind c.args.self.now c.requires.may) in
    rw (← c.self.view_is, working) (row_taken g.D.Disk _ _ _ (c.self.invariant.stands working) _ _ _ c.args.kind c.args.key.now c.args.value.now
    (rw (← c.self.view_is, working) at c.requires.may) c.in-Ok.ensures.works c.in-Ok.ensures.current c.in-Ok.ensures.row)

pub returns-in-Err-Write : goal.returns-in-Err-Write
returns-in-Err-Write g c =
    let working = rw (← c.self.view_is) at (may_working c.args.kind c.args.self.now c.requires.may) in
    rw (← c.self.view_is, working, c.of-basis.ensures) (row_refused g.D.Disk _ _ _ (c.self.invariant.stands working) _ _
    c.args.kind c.args.key.now c.args.value.now (error.Write c.in-Err-Write.fault) (least_logs _ (rw c.geometry.ensures.value at c.logs-known.ensures.limits))
    (rw (← c.self.view_is, working) at c.requires.may) (rw c.in-Err-Write.field-0-is at c.in-Err-Write.ensures.works) (rw c.in-Err-Write.field-0-is at c.in-Err-Write.ensures.err))

pub returns-in-Err-Read : goal.returns-in-Err-Read
returns-in-Err-Read g c =
    let working = rw (← c.self.view_is) at (may_working c.args.kind c.args.self.now c.requires.may) in
    rw (← c.self.view_is, working) (row_refused g.D.Disk _ _ _ (c.self.invariant.stands working) _ _
    c.args.kind c.args.key.now c.args.value.now (error.Read c.in-Err-Read.fault) (least_logs _ (rw c.geometry.ensures.value at c.logs-known.ensures.limits))
    (rw (← c.self.view_is, working) at c.requires.may) (rw c.in-Err-Read.field-0-is at c.in-Err-Read.ensures.works) (rw c.in-Err-Read.field-0-is at c.in-Err-Read.ensures.err))

pub returns-in-Err-NoRoom : goal.returns-in-Err-NoRoom
returns-in-Err-NoRoom g c =
    let working = rw (← c.self.view_is) at (may_working c.args.kind c.args.self.now c.requires.may) in
    rw (← c.self.view_is, working) (row_refused g.D.Disk _ _ _ (c.self.invariant.stands working) _ _
    c.args.kind c.args.key.now c.args.value.now error.NoRoom (least_logs _ (rw c.geometry.ensures.value at c.logs-known.ensures.limits))
    (rw (← c.self.view_is, working) at c.requires.may) (rw c.in-Err-NoRoom.field-0-is at c.in-Err-NoRoom.ensures.works) (rw c.in-Err-NoRoom.field-0-is at c.in-Err-NoRoom.ensures.err))

pub returns-in-Err-Spent : goal.returns-in-Err-Spent
returns-in-Err-Spent g c =
    let working = rw (← c.self.view_is) at (may_working c.args.kind c.args.self.now c.requires.may) in
    rw (← c.self.view_is, working) (row_refused g.D.Disk _ _ _ (c.self.invariant.stands working) _ _
    c.args.kind c.args.key.now c.args.value.now error.Spent (least_logs _ (rw c.geometry.ensures.value at c.logs-known.ensures.limits))
    (rw (← c.self.view_is, working) at c.requires.may) (rw c.in-Err-Spent.field-0-is at c.in-Err-Spent.ensures.works) (rw c.in-Err-Spent.field-0-is at c.in-Err-Spent.ensures.err))

pub returns-in-Err-NoMemory : goal.returns-in-Err-NoMemory
returns-in-Err-NoMemory g c =
    let working = rw (← c.self.view_is) at (may_working c.args.kind c.args.self.now c.requires.may) in
    rw (← c.self.view_is, working) (row_refused g.D.Disk _ _ _ (c.self.invariant.stands working) _ _
    c.args.kind c.args.key.now c.args.value.now error.NoMemory (least_logs _ (rw c.geometry.ensures.value at c.logs-known.ensures.limits))
    (rw (← c.self.view_is, working) at c.requires.may) (rw c.in-Err-NoMemory.field-0-is at c.in-Err-NoMemory.ensures.works) (rw c.in-Err-NoMemory.field-0-is at c.in-Err-NoMemory.ensures.err))

pub invariant_of-self-in-Err-Write : goal.invariant_of-self-in-Err-Write
invariant_of-self-in-Err-Write g c =
    let working = rw (← c.self.view_is) at (may_working c.args.kind c.args.self.now c.requires.may) in
    rw c.of-basis.ensures (core_broke g.D.Disk _ _ _ _ _ _ _ _ _ _ _ c.self.invariant working _ _ c.in-Err-Write.ensures.works (rw c.in-Err-Write.field-0-is at c.in-Err-Write.ensures.err))

pub invariant_of-self : goal.invariant_of-self
invariant_of-self g c =
    let working = rw (← c.self.view_is) at (may_working c.args.kind c.args.self.now c.requires.may) in
    core_went g.D.Disk _ _ _ _ _ _ _ _ _ _ _ c.self.invariant working _ _ c.in-Ok.ensures.works (omega arith) (rw (← c.self.view_is) at (may_count c.args.kind c.args.self.now c.requires.may))

pub invariant_of-self-in-Err-Read : goal.invariant_of-self-in-Err-Read
invariant_of-self-in-Err-Read g c = let err = rw c.in-Err-Read.field-0-is at c.in-Err-Read.ensures.err in rw (err.0.1, err.0.0) c.self.invariant

pub invariant_of-self-in-Err-NoRoom : goal.invariant_of-self-in-Err-NoRoom
invariant_of-self-in-Err-NoRoom g c = let err = rw c.in-Err-NoRoom.field-0-is at c.in-Err-NoRoom.ensures.err in rw (err.0.1, err.0.0) c.self.invariant

pub invariant_of-self-in-Err-Spent : goal.invariant_of-self-in-Err-Spent
invariant_of-self-in-Err-Spent g c = let err = rw c.in-Err-Spent.field-0-is at c.in-Err-Spent.ensures.err in rw (err.0.1, err.0.0) c.self.invariant

pub invariant_of-self-in-Err-NoMemory : goal.invariant_of-self-in-Err-NoMemory
invariant_of-self-in-Err-NoMemory g c = let err = rw c.in-Err-NoMemory.field-0-is at c.in-Err-NoMemory.ensures.err in rw (err.0.1, err.0.0) c.self.invariant
