use Rattle.silt_engine.proofs.Common.{◌≡◌, ◌≤◌, ◌-◌, ℕ, false, [], length, Some, None, refl, ap, sym, ◌∙◌, arith, length-map, Shape, Finished, Moved, EngineState, hash_region_of, Stands, none_made}
use Rattle.silt_engine.proofs.Common.{HasGathered}
use Rattle.silt_engine.proofs.engine.Engine.begin_merge.Given as given
use Rattle.silt_engine.specs.Merge.{refusal_of_step}
use Rattle.silt_engine.proofs.Counting.{tests_of}
use Rattle.silt_engine.proofs.MergeSteps.{begin_merges, begun, failed_map, first_lacks, found_by, most_made, some_stores, started_not_done, started_sound, started_way, started_written}
use Rattle.silt_engine.proofs.MergeSteps.{step_advances, step_cause, step_disk, step_made, steps_in, taken_shapes, way_after, BeginsMerge, begins_turn}
use Rattle.silt_engine.proofs.Exits.{on_error, state_of, nothing_done, went, went_off, refused}
use Rattle.silt_engine.proofs.Wholes.{whole_with}
use Rattle.silt_engine.proofs.engine.Engine.begin_merge.Goals.{In-Ok}
use Rattle.silt_engine.proofs.engine.Engine.begin_merge.Goals as goal

-- the merge was started from what was read of these stores
begins : (g : given.Over) (c : In-Ok g) → BeginsMerge (state_of c.self.inside) c.in-Ok.merge
begins g c = record {
  none = rw (← c.self.view_is) at c.requires.none;
  some = some_stores _ _ _ c.is_empty.ensures c.if-is_empty.false c.self.inside.hashes.ok.0;
  whole = c.self.invariant.whole;
  region = 1 - c.region-region.result;
  other = ap (λ (n : ℕ). 1 - n) c.region-region.ensures.value;
  read = c.deref.result.now;
  read_is = c.deref.ensures.value;
  sorted = c.entries-sorted.result.now;
  sorted_is = c.entries-sorted.ensures;
  is = c.in-Ok.ensures.start;
  held = c.in-Ok.ensures.held;
}

stands : (g : given.Over) (c : In-Ok g) → Stands (g.D.Disk.content c.args.disk.now) (state_of c.self.inside)
stands g c = rw (← c.self.view_is) at c.requires.stands

gathered : (g : given.Over) (c : In-Ok g) → HasGathered (g.D.Disk.content c.args.disk.now) (state_of c.self.inside) c.in-Ok.merge
unfolding begins
gathered g c = begun _ _ (begins g c) (g.D.Disk.content c.args.disk.now) (c.in-Ok.ensures.merged (g.D.Disk.content c.args.disk.now))
    (c.in-Ok.ensures.compared (state_of c.self.inside).digest)

pub step-requires-clause-shapes : goal.step-requires-clause-shapes
step-requires-clause-shapes g c κs within =
    let way = started_way _ _ (begins g (goal.at.step-requires-clause-shapes g c).In-Ok) in
    rw (← c.deref-2.ensures.value) at (taken_shapes _ _ c.self.invariant.whole way)

pub step-requires-clause-more : goal.step-requires-clause-more
step-requires-clause-more g c κs within =
    let begun = begins g (goal.at.step-requires-clause-more g c).In-Ok in
    rw (← c.entries-sorted.ensures) at (started_not_done _ _ begun)

pub returns-in_err-step-clause-err : goal.returns-in_err-step-clause-err
returns-in_err-step-clause-err g c =
    let at = (goal.at.returns-in_err-step-clause-err g c).In-Ok in
    let started = begins g at in
    let way = started_way _ _ started in
    let step = steps_in (state_of c.self.inside) _ _ _ c.deref-2.ensures.value c.entries-sorted.ensures c.digest.ensures c.in_err-step.ensures in
    let remaps = failed_map _ _ _ _ _ _ _ (stands g at) way step (state_of c.self.inside).merging in
    rw (← c.self.view_is) (on_error c.from_residual.result (refusal_of_step c.in_err-step.field-0.0) _ c.from_residual.ensures.1 (step_cause _ _ _ _ _ _ _ (stands g at) way step (state_of
    c.self.inside) (begins_turn _ _ started) (gathered g at) (λ same. refl) (λ takes. first_lacks (g.D.Disk.content c.args.disk.now) (state_of c.self.inside) started.none) (λ place found.
    let no : None ≡ Some place = sym (started_sound _ _ started) ∙ found in absurd (cc)) remaps c.in_err-step.field-0.0 step.fails))

pub invariant_of-self : goal.invariant_of-self
invariant_of-self g c =
    let at = (goal.at.invariant_of-self g c).In-Ok in
    let step = steps_in (state_of c.self.inside) _ _ _ c.deref-2.ensures.value c.entries-sorted.ensures c.digest.ensures c.step.ensures in
    let after = way_after _ _ _ _ _ _ _ (stands g at) (started_way _ _ (begins g at)) step in
    let whole = c.self.invariant.whole in
    record { whole = whole_with (state_of c.self.inside) _ _ _ refl refl whole.under_way after whole; enough = c.self.invariant.enough; enough_hashes = c.self.invariant.enough_hashes }

pub returns-clause-works : goal.returns-clause-works
returns-clause-works g c =
    let at = (goal.at.returns-clause-works g c).In-Ok in
    let started = begins g at in
    let way = started_way _ _ started in
    let step = steps_in (state_of c.self.inside) _ _ _ c.deref-2.ensures.value c.entries-sorted.ensures c.digest.ensures c.in_ok-step.ensures in
    rw (← c.self.view_is) (went g.D.Disk [] c.args.disk.now c.step.new.disk (state_of c.self.inside) _ _ (step_disk _ _ _ _ _ _ _ (stands g at) way step) (stands g at) step.goes.failures
    (step_advances _ _ _ _ _ _ _ (stands g at) way step step.goes (gathered g at)) (step_made _ _ _ _ _ _ _ (stands g at) way step step.goes (started_written _ _ started)))

pub returns-then-is_empty-clause-works : goal.returns-then-is_empty-clause-works
returns-then-is_empty-clause-works g c = nothing_done g.D.Disk _ _ _ c.requires.stands none_made

pub start-requires-clause-most : goal.start-requires-clause-most
start-requires-clause-most g c =
    let stores : EngineState = state_of c.self.inside in
    let most = (tests_of stores.manifest.shape _ stores.manifest.current c.current-known.ensures.sound).most in
    let regions : c.hashes-known.result ≡ stores.manifest.shape.hashes = c.hashes-known.ensures.value ∙ ap (λ (sh : Shape). sh.hashes) c.geometry.ensures.value in
    let limit : c.hashes-known.result ≤ 16 = omega (arith, c.hashes-known.ensures.value, c.hashes-known.ensures.limits.hashes_most) in
    let count : length c.deref.result.now ≡ length stores.manifest.current.hashed =
    ap length c.deref.ensures.value ∙ sym (length-map stores.hashes hash_region_of) ∙ ap length c.self.invariant.whole.hash_regions in
    omega (arith, most, regions, limit, count)

pub returns-clause-merges : goal.returns-clause-merges
returns-clause-merges g c =
    let started = begins g (goal.at.returns-clause-merges g c).In-Ok in
    let step = steps_in (state_of c.self.inside) _ _ _ c.deref-2.ensures.value c.entries-sorted.ensures c.digest.ensures c.in_ok-step.ensures in
    rw (← c.self.view_is) (begin_merges _ _ started c.step.new.self c.step.ensures.same c.in_ok-step.ensures.goes.steps (found_by step.goes))

pub returns-clause-moves : goal.returns-clause-moves
returns-clause-moves g c = λ is. let no : Moved ≡ Finished = is in cc

pub returns-in_default-clause-works : goal.returns-in_default-clause-works
returns-in_default-clause-works g c = refused g.D.Disk c.args.disk.now c.args.self.now _

pub returns-in_err-step-clause-works : goal.returns-in_err-step-clause-works
returns-in_err-step-clause-works g c =
    let at = (goal.at.returns-in_err-step-clause-works g c).In-Ok in
    let started = begins g at in
    let step = steps_in (state_of c.self.inside) _ _ _ c.deref-2.ensures.value c.entries-sorted.ensures c.digest.ensures c.in_err-step.ensures in
    let way = started_way _ _ started in
    rw (← c.self.view_is) (went_off g.D.Disk _ _ _ _ c.from_residual.result (refusal_of_step c.in_err-step.field-0.0) c.from_residual.ensures.1
    (step_disk _ _ _ _ _ _ _ (stands g at) way step) refl (most_made _ _ _ _ _ _ _ (stands g at) way step (begins_turn _ _ started) step.most))
