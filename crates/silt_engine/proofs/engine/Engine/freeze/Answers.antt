use Rattle.silt_engine.proofs.Common.{[], Ok, refl, arith, ⊤, most_both, made_both}
use Rattle.silt_engine.proofs.Chains.{same_trans}
use Rattle.silt_engine.proofs.Exits.{on_error, both_went, same_disk, then_broke_off, went_off, went_so}
use Rattle.silt_engine.proofs.Commits.{frozen_from, next_for, frozen_advances, frozen_may_become_current, frozen_whole, has_frozen}
use Rattle.silt_engine.proofs.engine.Engine.freeze.Goals as goal

pub clear_region-requires-clause-next : goal.clear_region-requires-clause-next
clear_region-requires-clause-next g c κs within = next_for _ _ _ c.flush.ensures.others.manifest c.flush.ensures.others.frozen c.requires.next

pub returns-in_err-clear_region-clause-err : goal.returns-in_err-clear_region-clause-err
returns-in_err-clear_region-clause-err g c = on_error _ _ _ c.from_residual-in_err-clear_region.ensures.1 (then_broke_off g.D.Disk _ _ _ _ _ _ _ _
    c.in_ok-flush.ensures.works c.clear_region.ensures.works.same c.in_err-clear_region.ensures.err)

pub change_manifest-requires-clause-next : goal.change_manifest-requires-clause-next
change_manifest-requires-clause-next g c κs within =
    let cleared = c.in_ok-clear_region.ensures in
    frozen_may_become_current _ _ _ _ cleared.works.advances.stands cleared.quiet cleared.emptied c.own_digests-digests.ensures

pub returns-in_err-manifest-clause-err : goal.returns-in_err-manifest-clause-err
returns-in_err-manifest-clause-err g c =
    let one = both_went {T3 = ⊤} {E3 = ⊤} g.D.Disk [] [] _ _ _ _ _ _ _ _ _ c.in_ok-flush.ensures.works c.in_ok-clear_region.ensures.works refl refl in
    on_error _ _ _ c.from_residual-in_err-manifest.ensures.1 (then_broke_off g.D.Disk _ _ _ _ _ _ _ _ one (same_disk c.change_manifest.ensures.wrote) c.in_err-manifest.ensures.wrote.failures)

pub replace_active-requires : goal.replace_active-requires
replace_active-requires g c = frozen_whole _ _ _ _ c.in_ok-clear_region.ensures.works.advances.stands c.in_ok-clear_region.ensures.quiet
    c.in_ok-clear_region.ensures.emptied c.own_digests-digests.ensures _ c.change_manifest.ensures.wrote.size _ c.in_ok-manifest.ensures.ok

pub returns-clause-works : goal.returns-clause-works
returns-clause-works g c =
    let one = both_went {T3 = ⊤} {E3 = ⊤} g.D.Disk [] [] _ _ _ _ _ c.flush.new.self _ _ (Ok tt) c.in_ok-flush.ensures.works c.in_ok-clear_region.ensures.works refl refl in
    let cleared = c.in_ok-clear_region.ensures in
    let two = rw (← c.replace_active.ensures) at (frozen_advances _ _ _ _ cleared.works.advances.stands cleared.quiet cleared.emptied c.own_digests-digests.ensures _
    c.change_manifest.ensures.wrote.size _ c.in_ok-manifest.ensures.ok) in
    let rest = went_so {E = ⊤} g.D.Disk [] _ _ _ _ (Ok c.in_ok-manifest.manifest) (same_disk c.change_manifest.ensures.wrote) cleared.works.advances.stands
    c.in_ok-manifest.ensures.wrote.failures two c.in_ok-manifest.ensures.wrote.made in
    both_went g.D.Disk [] [] _ _ _ _ _ _ _ _ _ one rest (omega arith) (omega arith)

pub returns-clause-frozen : goal.returns-clause-frozen
returns-clause-frozen g c =
    let cleared = c.in_ok-clear_region.ensures in
    let has = rw (← c.replace_active.ensures) at (has_frozen _ _ _ _ cleared.works.advances.stands cleared.quiet cleared.emptied c.own_digests-digests.ensures _
    c.change_manifest.ensures.wrote.size _ c.in_ok-manifest.ensures.ok) in
    rw c.clear_region.ensures.next at (frozen_from _ _ _ _ _ c.flush.ensures.others c.flush.ensures.charge has)

pub returns-in_err-clear_region-clause-works : goal.returns-in_err-clear_region-clause-works
returns-in_err-clear_region-clause-works g c =
    went_off g.D.Disk _ _ _ _ _ _ c.from_residual-in_err-clear_region.ensures.1 (same_trans _ _ _ c.flush.ensures.works.same c.clear_region.ensures.works.same)
    c.flush.ensures.works.shape (most_both _ c.in_ok-flush.ensures.works.made c.in_err-clear_region.ensures.works.made (omega arith) (omega arith))

pub returns-in_err-manifest-clause-works : goal.returns-in_err-manifest-clause-works
returns-in_err-manifest-clause-works g c =
    let front = made_both _ c.in_ok-flush.ensures.works.made c.in_ok-clear_region.ensures.works.made refl refl in
    went_off g.D.Disk _ _ _ _ _ _ c.from_residual-in_err-manifest.ensures.1 (same_trans _ _ _ (same_trans _ _ _ c.flush.ensures.works.same c.clear_region.ensures.works.same) (same_disk
    c.change_manifest.ensures.wrote)) c.flush.ensures.works.shape (most_both _ front c.in_err-manifest.ensures.wrote.made (omega arith) (omega arith))
