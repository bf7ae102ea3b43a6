use Rattle.silt_engine.proofs.Common.{[], arith, most_both, refl, ◌∙◌}
use Rattle.silt_engine.proofs.Appends.{turns_for}
use Rattle.silt_engine.proofs.Chains.{same_trans}
use Rattle.silt_engine.proofs.Exits.{both_went, then_broke_off, refused, went_off}
use Rattle.silt_engine.proofs.engine.Engine.write_in_next.Goals as goal

pub returns-in-Ok-write_active-clause-works : goal.returns-in-Ok-write_active-clause-works
returns-in-Ok-write_active-clause-works g c = both_went g.D.Disk [] _ _ _ _ _ _ _ _ _ _ c.in_default.ensures.works c.in-Ok-write_active.ensures.works (omega arith) (omega arith)

pub returns-in-Ok-write_active-clause-current : goal.returns-in-Ok-write_active-clause-current
returns-in-Ok-write_active-clause-current g c =
    turns_for _ _ _ _ _ _ _ _ _ c.freeze.ensures.works.same c.requires.needs c.in-Ok.ensures.ok c.in_default.ensures.frozen
    c.in-Ok-write_active.ensures.row.others.manifest (returns-in-Ok-write_active-clause-works g c).advances c.in-Ok-write_active.ensures.row.waits

pub returns-in-Err-Write-clause-err : goal.returns-in-Err-Write-clause-err
returns-in-Err-Write-clause-err g c = then_broke_off g.D.Disk _ _ _ _ _ _ _ _
    c.in_default.ensures.works c.write_active.ensures.works.same (rw c.in-Err-Write.field-0-is at c.in-Err-Write.ensures.err)

pub returns-in-Err-NoRoom-clause-works : goal.returns-in-Err-NoRoom-clause-works
returns-in-Err-NoRoom-clause-works g c = refused g.D.Disk c.args.disk.now c.args.self.now _

pub returns-in-Err-Spent-clause-works : goal.returns-in-Err-Spent-clause-works
returns-in-Err-Spent-clause-works g c = refused g.D.Disk c.args.disk.now c.args.self.now _

pub returns-in-Err-NoMemory-clause-works : goal.returns-in-Err-NoMemory-clause-works
returns-in-Err-NoMemory-clause-works g c = refused g.D.Disk c.args.disk.now c.args.self.now _

pub returns-in-Err-Write-clause-works : goal.returns-in-Err-Write-clause-works
returns-in-Err-Write-clause-works g c =
    went_off g.D.Disk _ _ _ _ _ _ refl (same_trans _ _ _ c.freeze.ensures.works.same c.write_active.ensures.works.same) (c.write_active.ensures.works.shape ∙
    c.freeze.ensures.works.shape) (most_both _ c.in_default.ensures.works.made c.in-Err-Write.ensures.works.made (omega arith) (omega arith))
