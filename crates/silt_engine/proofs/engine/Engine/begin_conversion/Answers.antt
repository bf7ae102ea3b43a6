use Rattle.silt_engine.proofs.Common.{◌≡◌, ◌-◌, List, [], length, None, refl, ap, sym, ◌∙◌, subst, arith, rules, option_copied, InLimits, Shape, device_size, LogStoreState, EngineState, Stands}
use Rattle.silt_engine.proofs.Common.{convert_turn, Finished, Moved, Progress, step_syncs, step_writes, Idle, Makes, none_made}
use Rattle.silt_engine.proofs.engine.Engine.begin_conversion.Given as given
use Rattle.std.specs.Prelude.{slice_get}
use Rattle.silt_engine.specs.Conversion.{refusal_of_step}
use Rattle.silt_engine.proofs.ConvertSteps.{begin_converts, begin_turn, begin_waits, first_advances, first_failed_breaks, first_failed_map, idle_turn, started_shape, step_cause, MayBegin}
use Rattle.silt_engine.proofs.Exits.{on_error, state_of, nothing_done, same_disk, went_off, went_so, refused}
use Rattle.silt_engine.proofs.engine.Engine.begin_conversion.Goals.{After-lowest_free_hash}
use Rattle.silt_engine.proofs.engine.Engine.begin_conversion.Goals as goal

-- what was read of these stores, before a free region is known
may : (g : given.Over) (c : After-lowest_free_hash g) → MayBegin (state_of c.self.inside) c.in-Some.oldest.now c.current.result c.hashes.result
may g c = record {
  read = sym (ap option_copied c.in-Some.is) ∙ c.last.ensures.value ∙ ap (λ (l : List LogStoreState). slice_get l (length l - 1)) c.deref.ensures.value;
  none = rw (← c.self.view_is) at c.requires.none;
  whole = c.self.invariant.whole;
  sound = c.current.ensures.sound;
  same_current = c.current.ensures.value;
  hashes_are = c.hashes.ensures.value ∙ ap (λ (sh : Shape). sh.hashes) c.geometry-geometry.ensures.value;
}

limits : (g : given.Over) (c : After-lowest_free_hash g) → InLimits (state_of c.self.inside).manifest.shape
limits g c = subst InLimits c.geometry-geometry.ensures.value c.hashes.ensures.limits

stands : (g : given.Over) (c : After-lowest_free_hash g) → Stands (g.D.Disk.content c.args.disk.now) (state_of c.self.inside)
stands g c = rw (← c.self.view_is) at c.requires.stands

pub returns-in_default-lowest_free_hash-clause-converts : goal.returns-in_default-lowest_free_hash-clause-converts
returns-in_default-lowest_free_hash-clause-converts g c =
    let at = (goal.at.returns-in_default-lowest_free_hash-clause-converts g c).After-lowest_free_hash in
    rw (← c.self.view_is) (begin_waits _ _ _ _ 0 (may g at) c.in_default-lowest_free_hash.ensures.none)

pub returns-in_default-start-clause-err : goal.returns-in_default-start-clause-err
returns-in_default-start-clause-err g c =
    let at = (goal.at.returns-in_default-start-clause-err g c).After-lowest_free_hash in
    let turn = begin_turn _ _ _ _ _ (may g at) c.in-Some-lowest_free_hash.ensures.some in
    (refl, refl, subst (λ (v : EngineState). convert_turn v ≡ Moved) c.self.view_is turn, c.requires.none)

pub step-requires-clause-size : goal.step-requires-clause-size
step-requires-clause-size g c κs within =
    let at = (goal.at.step-requires-clause-size g c).After-lowest_free_hash in
    let same = started_shape _ _ _ _ _ (may g at) c.in-Some-lowest_free_hash.ensures.some _ c.in-Ok.ensures.start (limits g at) in
    omega (arith, ap device_size same, (stands g at).has_size)

pub returns-in_err-step-clause-err : goal.returns-in_err-step-clause-err
returns-in_err-step-clause-err g c =
    let at = (goal.at.returns-in_err-step-clause-err g c).After-lowest_free_hash in
    let lowest = c.in-Some-lowest_free_hash.ensures.some in
    let wrote = c.step.ensures.wrote in
    let written = c.in-Ok.ensures.written (g.D.Disk.content c.args.disk.now) in
    let breaks = first_failed_breaks _ _ _ _ _ (may g at) lowest _ c.in-Ok.ensures.start (limits g at) _ _ c.step.new.self (stands g at) written wrote.size wrote.changes in
    let remaps = first_failed_map _ _ _ _ _ (may g at) lowest _ c.in-Ok.ensures.start (limits g at) _ _ c.step.new.self (stands g at) written wrote.size wrote.changes in
    rw (← c.self.view_is) (on_error c.from_residual.result (refusal_of_step c.in_err-step.field-0.0) _ c.from_residual.ensures.1 (step_cause g.D.Disk c.args.disk.now c.step.new.disk
    (state_of c.self.inside) (state_of c.self.inside) c.in_err-step.field-0.0 c.in_err-step.ensures.wrote.failures refl (begin_turn _ _ _ _ _ (may g at) lowest) breaks remaps))

pub invariant_of-self : goal.invariant_of-self
invariant_of-self g c =
    let at = (goal.at.invariant_of-self g c).After-lowest_free_hash in
    let goes = first_advances _ _ _ _ _ (may g at) c.in-Some-lowest_free_hash.ensures.some _ c.in-Ok.ensures.start (limits g at) _ _ _ (stands g at) (c.in-Ok.ensures.written
    (g.D.Disk.content c.args.disk.now)) c.step.ensures.wrote.size c.step.ensures.wrote.changes c.in_ok-step.ensures.ok c.step.ensures.written in
    record { whole = goes.stands.whole; enough = c.self.invariant.enough; enough_hashes = c.self.invariant.enough_hashes }

pub returns-clause-works : goal.returns-clause-works
returns-clause-works g c =
    let at = (goal.at.returns-clause-works g c).After-lowest_free_hash in
    let wrote = c.step.ensures.wrote in
    rw (← c.self.view_is) (went_so g.D.Disk [] c.args.disk.now c.step.new.disk (state_of c.self.inside) _ _ (same_disk wrote) (stands g at) c.in_ok-step.ensures.wrote.failures
    (first_advances _ _ _ _ _ (may g at) c.in-Some-lowest_free_hash.ensures.some _ c.in-Ok.ensures.start (limits g at) _ _ c.step.new.self (stands g at) (c.in-Ok.ensures.written
    (g.D.Disk.content c.args.disk.now)) wrote.size wrote.changes c.in_ok-step.ensures.ok c.step.ensures.written) (rw (begin_turn _ _ _ _ _ (may g at) c.in-Some-lowest_free_hash.ensures.some)
    c.in_ok-step.ensures.wrote.made))

pub returns-clause-converts : goal.returns-clause-converts
returns-clause-converts g c =
    let at = (goal.at.returns-clause-converts g c).After-lowest_free_hash in
    rw (← c.self.view_is) (begin_converts _ _ _ _ _ (may g at) c.in-Some-lowest_free_hash.ensures.some _ c.in-Ok.ensures.start (limits g at) _ _ c.in_ok-step.ensures.ok.next)

pub returns-in_default-clause-works : goal.returns-in_default-clause-works
returns-in_default-clause-works g c =
    let none = subst (λ (v : EngineState). v.converting ≡ None) (sym c.self.view_is) c.requires.none in
    let last : slice_get c.deref.result.now (length c.deref.result.now - 1) ≡ None = search rules in
    let turn = subst (λ (v : EngineState). convert_turn v ≡ Idle) c.self.view_is (idle_turn (state_of c.self.inside) none c.deref.result.now c.deref.ensures.value last) in
    nothing_done g.D.Disk c.args.disk.now c.args.self.now _ c.requires.stands (rw turn none_made)

pub returns-in_default-lowest_free_hash-clause-works : goal.returns-in_default-lowest_free_hash-clause-works
returns-in_default-lowest_free_hash-clause-works g c = nothing_done g.D.Disk c.args.disk.now c.args.self.now _ c.requires.stands (subst (λ (p : Progress). Makes g.D.Disk.writes
    g.D.Disk.syncs (step_writes p) (step_syncs p) c.args.disk.now c.args.disk.now) (returns-in_default-lowest_free_hash-clause-converts g c).due none_made)

pub returns-clause-moves : goal.returns-clause-moves
returns-clause-moves g c = λ is. let no : Moved ≡ Finished = is in cc

pub returns-in_default-start-clause-works : goal.returns-in_default-start-clause-works
returns-in_default-start-clause-works g c = refused g.D.Disk c.args.disk.now c.args.self.now _

pub returns-in_err-step-clause-works : goal.returns-in_err-step-clause-works
returns-in_err-step-clause-works g c =
    let turn = begin_turn _ _ _ _ _ (may g (goal.at.returns-in_err-step-clause-works g c).After-lowest_free_hash) c.in-Some-lowest_free_hash.ensures.some in
    let due : convert_turn c.args.self.now ≡ Moved = cc (turn, c.self.view_is) in
    went_off g.D.Disk _ _ _ _ _ _ c.from_residual.ensures.1 (same_disk c.step.ensures.wrote) (search rules) (rw due c.in_err-step.ensures.wrote.made)
