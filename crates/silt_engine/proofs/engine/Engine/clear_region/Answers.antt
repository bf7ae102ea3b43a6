use Rattle.silt_engine.proofs.Common.{[], refl}
use Rattle.silt_engine.proofs.Exits.{on_error, broke_off, same_disk, went_so}
use Rattle.silt_engine.proofs.Flushes.{quiet}
use Rattle.silt_engine.proofs.Freezes.{clear_advances, clear_emptied}
use Rattle.silt_engine.proofs.engine.Engine.clear_region.Goals as goal

pub returns-in_err-prepare-clause-err : goal.returns-in_err-prepare-clause-err
returns-in_err-prepare-clause-err g c =
    on_error _ _ _ c.from_residual.ensures.1 (broke_off g.D.Disk _ _ _ _ _ (same_disk c.prepare.ensures.wrote) c.requires.stands c.in_err-prepare.ensures.wrote.failures (clear_advances _ _ _
    _ c.requires.stands c.requires.next c.prepare.ensures.wrote.size c.prepare.ensures.wrote.changes))

pub returns-clause-works : goal.returns-clause-works
returns-clause-works g c = went_so g.D.Disk [] _ _ _ _ _ (same_disk c.prepare.ensures.wrote) c.requires.stands c.in_ok-prepare.ensures.wrote.failures
    (clear_advances _ _ _ _ c.requires.stands c.requires.next c.prepare.ensures.wrote.size c.prepare.ensures.wrote.changes) c.in_ok-prepare.ensures.wrote.made

pub returns-clause-emptied : goal.returns-clause-emptied
returns-clause-emptied g c = clear_emptied (g.D.Disk.content c.args.disk.now) _ c.args.self.now c.args.next.now c.requires.next c.prepare.new.self c.in_ok-prepare.ensures.ok _ refl

pub returns-clause-quiet : goal.returns-clause-quiet
returns-clause-quiet g c = quiet _ _ c.requires.quiet.settled
