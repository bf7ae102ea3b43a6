use Rattle.silt_engine.proofs.Common.{[], rules, arith, MakesAtMost, most_made}
use Rattle.silt_engine.proofs.Exits.{on_error, broke_off, went_so}
use Rattle.silt_engine.proofs.ConvertSlots.{failed_advances, sync_advances}
use Rattle.silt_engine.proofs.engine.Engine.settle_work.Goals as goal

pub returns-in_err-sync-clause-err : goal.returns-in_err-sync-clause-err
returns-in_err-sync-clause-err g c =
    on_error _ _ _ c.from_residual.ensures.1 (broke_off g.D.Disk _ _ _ _ _ (record { size = c.sync.ensures.size; honest = c.in_err-sync.ensures.unchanged.honest }) c.requires.stands
    (c.in_err-sync.ensures.failures.0, (_, _, _, c.in_err-sync.ensures.failures.1)) (failed_advances _ _ _ c.requires.stands c.sync.ensures.size c.in_err-sync.ensures.unchanged))

pub returns-clause-works : goal.returns-clause-works
returns-clause-works g c = went_so g.D.Disk [] _ _ _ _ _ (record { size = c.sync.ensures.size; honest = c.in_ok-sync.ensures.settled.honest }) c.requires.stands
    c.in_ok-sync.ensures.failures (sync_advances _ _ _ c.requires.stands c.sync.ensures.size c.in_ok-sync.ensures.settled) c.sync.ensures.made

pub returns-in_err-sync-clause-works : goal.returns-in_err-sync-clause-works
returns-in_err-sync-clause-works g c =
    let most : MakesAtMost g.D.Disk.writes g.D.Disk.syncs 0 1 c.args.disk.now c.sync.new.self = most_made c.in_err-sync.ensures.made (omega arith) (omega arith) in
    search (rules, most)
