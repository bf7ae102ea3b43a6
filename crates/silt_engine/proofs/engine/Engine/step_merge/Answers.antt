use Rattle.silt_engine.proofs.Common.{◌≡◌, [], Option, Some, refl, ap, sym, ◌∙◌, subst, IfSome, MergeState, oldest_stores, TakesMemory, EngineState, Stands, written_by_merge, damaged_in, merge_turn}
use Rattle.silt_engine.proofs.Common.{Moved, HasGathered, IsMerging}
use Rattle.silt_engine.proofs.engine.Engine.step_merge.Given as given
use Rattle.silt_engine.specs.Merge.{refusal_of_step}
use Rattle.silt_engine.proofs.MergeSteps.{failed_map, found_by, gathered_of, merging_of, most_made, next_merges, step_advances, step_cause, step_disk, step_made, steps_in, taken_shapes, way_after}
use Rattle.silt_engine.proofs.Exits.{on_error, state_of, went, went_off}
use Rattle.silt_engine.proofs.Wholes.{whole_with}
use Rattle.silt_engine.proofs.engine.Engine.step_merge.Goals.{In-Some}
use Rattle.silt_engine.proofs.engine.Engine.step_merge.Goals as goal

-- the merge is in progress in these stores
way : (g : given.Over) (c : In-Some g) → IsMerging (state_of c.self.inside) c.in-Some.merge
way g c = merging_of _ _ c.self.invariant.whole c.in-Some.is

stands : (g : given.Over) (c : In-Some g) → Stands (g.D.Disk.content c.args.disk.now) (state_of c.self.inside)
stands g c = rw (← c.self.view_is) at c.requires.stands

gathered : (g : given.Over) (c : In-Some g) → HasGathered (g.D.Disk.content c.args.disk.now) (state_of c.self.inside) c.in-Some.merge
gathered g c = gathered_of _ _ _ (stands g c) c.in-Some.is

turn : (g : given.Over) (c : In-Some g) → merge_turn (state_of c.self.inside) ≡ Moved
turn g c = rw (← c.self.view_is) at c.requires.turn

pub step-requires-clause-shapes : goal.step-requires-clause-shapes
step-requires-clause-shapes g c κs within =
    let shapes = taken_shapes _ _ c.self.invariant.whole (way g (goal.at.step-requires-clause-shapes g c).In-Some) in
    rw (← c.deref.ensures.value) at shapes

pub returns-in_err-step-clause-err : goal.returns-in_err-step-clause-err
returns-in_err-step-clause-err g c =
    let at = (goal.at.returns-in_err-step-clause-err g c).In-Some in
    let stores : EngineState = state_of c.self.inside in
    let after : EngineState = record stores { merging = Some c.step.new.self } in
    let step = steps_in stores _ _ _ c.deref.ensures.value c.entries.ensures c.digest.ensures c.in_err-step.ensures in
    let same : c.step.new.self ≡ c.in-Some.merge → after ≡ stores = λ e. ap (λ (o : Option MergeState). record stores { merging = o }) (ap Some e ∙ sym c.in-Some.is) in
    let remaps = failed_map _ _ _ _ _ _ _ (stands g at) (way g at) step (Some c.step.new.self) in
    let lacks = subst (λ (o : Option MergeState). IfSome o (λ merge. TakesMemory (g.D.Disk.content c.args.disk.now) (oldest_stores merge.stores stores.hashes)
    stores.sorted merge)) (sym c.in-Some.is) in
    rw (← c.self.view_is) (on_error _ _ _ c.from_residual.ensures.1 (step_cause _ _ _ _ _ _ _ (stands g at) (way g at) step after (turn g at) (gathered g at)
    same lacks (λ place found. ap damaged_in c.in-Some.is ∙ found) remaps c.in_err-step.field-0.0 step.fails))

pub invariant_of-self : goal.invariant_of-self
invariant_of-self g c =
    let at = (goal.at.invariant_of-self g c).In-Some in
    let step = steps_in (state_of c.self.inside) _ _ _ c.deref.ensures.value c.entries.ensures c.digest.ensures c.step.ensures in
    let after = way_after _ _ _ _ _ _ _ (stands g at) (way g at) step in
    let whole = c.self.invariant.whole in
    record { whole = whole_with (state_of c.self.inside) _ _ _ refl refl whole.under_way after whole; enough = c.self.invariant.enough; enough_hashes = c.self.invariant.enough_hashes }

pub invariant_of-self-2 : goal.invariant_of-self-2
invariant_of-self-2 g c =
    let at = (goal.at.invariant_of-self-2 g c).In-Some in
    let step = steps_in (state_of c.self.inside) _ _ _ c.deref.ensures.value c.entries.ensures c.digest.ensures c.step.ensures in
    let after = way_after _ _ _ _ _ _ _ (stands g at) (way g at) step in
    let whole = c.self.invariant.whole in
    record { whole = whole_with (state_of c.self.inside) _ _ _ refl refl whole.under_way after whole; enough = c.self.invariant.enough; enough_hashes = c.self.invariant.enough_hashes }

pub returns-clause-works : goal.returns-clause-works
returns-clause-works g c =
    let at = (goal.at.returns-clause-works g c).In-Some in
    let step = steps_in (state_of c.self.inside) _ _ _ c.deref.ensures.value c.entries.ensures c.digest.ensures c.in_ok-step.ensures in
    rw (← c.self.view_is) (went g.D.Disk [] c.args.disk.now c.step.new.disk (state_of c.self.inside) _ _ (step_disk _ _ _ _ _ _ _ (stands g at) (way g at) step) (stands g at)
    step.goes.failures (step_advances _ _ _ _ _ _ _ (stands g at) (way g at) step step.goes (gathered g at)) (step_made _ _ _ _ _ _ _ (stands g at) (way g at) step step.goes (ap
    written_by_merge c.in-Some.is)))

pub returns-clause-merges : goal.returns-clause-merges
returns-clause-merges g c =
    let step = steps_in (state_of c.self.inside) _ _ _ c.deref.ensures.value c.entries.ensures c.digest.ensures c.in_ok-step.ensures in
    rw (← c.self.view_is) (next_merges (state_of c.self.inside) c.in-Some.merge c.step.new.self c.in-Some.is
    (turn g (goal.at.returns-clause-merges g c).In-Some) c.step.ensures.same c.in_ok-step.ensures.goes.steps (found_by step.goes))

pub returns-in_err-step-clause-works : goal.returns-in_err-step-clause-works
returns-in_err-step-clause-works g c =
    let at = (goal.at.returns-in_err-step-clause-works g c).In-Some in
    let step = steps_in (state_of c.self.inside) _ _ _ c.deref.ensures.value c.entries.ensures c.digest.ensures c.in_err-step.ensures in
    rw (← c.self.view_is) (went_off g.D.Disk _ _ _ _ c.from_residual.result (refusal_of_step c.in_err-step.field-0.0) c.from_residual.ensures.1
    (step_disk _ _ _ _ _ _ _ (stands g at) (way g at) step) refl (most_made _ _ _ _ _ _ _ (stands g at) (way g at) step (turn g at) step.most))
