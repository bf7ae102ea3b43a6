use Rattle.silt_engine.proofs.Common.{ap, arith, refl, most_none, [], is_work, rules}
use Rattle.silt_engine.proofs.Exits.{both_went, then_broke_off, refused, went_off}
use Rattle.silt_engine.proofs.MergeSeals.{merges_before, sealed_stands, sealed_works}
use Rattle.silt_engine.proofs.engine.Engine.finish_merge.Goals as goal

pub finish_sealed-requires-clause-stands : goal.finish_sealed-requires-clause-stands
finish_sealed-requires-clause-stands g c κs within = sealed_stands _ _ c.in-Ok.ensures.made _ c.requires.stands

pub returns-in-Ok-finish_sealed-clause-works : goal.returns-in-Ok-finish_sealed-clause-works
returns-in-Ok-finish_sealed-clause-works g c =
    let sealed = sealed_works _ _ c.in-Ok.ensures.made {E = g.row.D-Fault.Denot} g.D.Disk _ c.requires.stands in
    both_went g.D.Disk [] [] _ _ _ _ _ _ _ _ _ sealed c.in-Ok-finish_sealed.ensures.works (omega arith) (omega arith)

pub returns-in-Ok-finish_sealed-clause-merges : goal.returns-in-Ok-finish_sealed-clause-merges
returns-in-Ok-finish_sealed-clause-merges g c = merges_before _ _ c.in-Ok.ensures.made _ c.requires.turn c.in-Ok-finish_sealed.ensures.ends

pub returns-in-Err-clause-err : goal.returns-in-Err-clause-err
returns-in-Err-clause-err g c =
    let sealed = sealed_works _ _ c.in-Ok.ensures.made {E = g.row.D-Fault.Denot} g.D.Disk _ c.requires.stands in (
      ap is_work c.requires.turn,
      then_broke_off g.D.Disk _ _ _ _ _ _ _ _ sealed c.finish_sealed.ensures.works.same c.in-Err.ensures.err,
    )

pub returns-in_default-clause-works : goal.returns-in_default-clause-works
returns-in_default-clause-works g c = went_off g.D.Disk _ _ _ _ _ _ refl (record { size = refl; honest = refl }) (search rules) most_none

pub returns-then-current-eq-LAST_GENERATION-clause-works : goal.returns-then-current-eq-LAST_GENERATION-clause-works
returns-then-current-eq-LAST_GENERATION-clause-works g c = refused g.D.Disk c.args.disk.now c.args.self.now _
