use Rattle.silt_engine.proofs.Common.{◌≡◌, ◌-◌, List, [], length, Option, Some, ap, sym, ◌∙◌, subst, option_copied, LogStoreState, ConversionState, AreWhole, EngineState, Stands, convert_turn}
use Rattle.silt_engine.proofs.Common.{Moved}
use Rattle.silt_engine.proofs.engine.Engine.step_conversion.Given as given
use Rattle.std.specs.Prelude.{slice_get}
use Rattle.silt_engine.specs.Conversion.{refusal_of_step}
use Rattle.silt_engine.proofs.ConvertDone.{way}
use Rattle.silt_engine.proofs.ConvertSteps.{moves_below, next_advances, next_converts, next_failed_breaks, next_failed_map, step_cause}
use Rattle.silt_engine.proofs.Exits.{on_error, state_of, same_disk, went_so}
use Rattle.silt_engine.proofs.engine.Engine.step_conversion.Goals.{In-Some-last}
use Rattle.silt_engine.proofs.engine.Engine.step_conversion.Goals as goal

-- of these stores, before the step
stands : (g : given.Over) (c : In-Some-last g) → Stands (g.D.Disk.content c.args.disk.now) (state_of c.self.inside)
stands g c = rw (← c.self.view_is) at c.requires.stands

turn : (g : given.Over) (c : In-Some-last g) → convert_turn (state_of c.self.inside) ≡ Moved
turn g c = rw (← c.self.view_is) at c.requires.turn

read : (g : given.Over) (c : In-Some-last g) → Some c.in-Some-last.log.now ≡ slice_get c.self.inside.frozen.items (length c.self.inside.frozen.items - 1)
read g c = sym (ap option_copied c.in-Some-last.is) ∙ c.last.ensures.value ∙ ap (λ (l : List LogStoreState). slice_get l (length l - 1)) c.deref.ensures.value

pub returns-in_err-step-clause-err : goal.returns-in_err-step-clause-err
returns-in_err-step-clause-err g c =
    let at = (goal.at.returns-in_err-step-clause-err g c).In-Some-last in
    let stores : EngineState = state_of c.self.inside in
    let after : EngineState = record stores { converting = Some c.step.new.self } in
    let same : after ≡ stores = ap (λ (o : Option ConversionState). record stores { converting = o }) (ap Some c.in_err-step.ensures.err ∙ sym c.in-Some.is) in
    let wrote = c.step.ensures.wrote in
    let breaks = next_failed_breaks _ _ stores _ _ c.step.new.self (stands g at) (read g at) c.in-Some.is (turn g at) wrote.size wrote.changes in
    let remaps = next_failed_map _ _ stores _ _ c.step.new.self (stands g at) (read g at) c.in-Some.is (turn g at) wrote.size wrote.changes (Some c.step.new.self) in
    rw (← c.self.view_is) (on_error c.from_residual.result (refusal_of_step c.in_err-step.field-0.0) _ c.from_residual.ensures.1 (step_cause g.D.Disk c.args.disk.now c.step.new.disk stores
    after c.in_err-step.field-0.0 c.in_err-step.ensures.wrote.failures same (turn g at) breaks remaps))

pub returns-clause-works : goal.returns-clause-works
returns-clause-works g c =
    let at = (goal.at.returns-clause-works g c).In-Some-last in
    let wrote = c.step.ensures.wrote in
    rw (← c.self.view_is) (went_so g.D.Disk [] _ _ _ _ _ (same_disk wrote) (stands g at) c.in_ok-step.ensures.wrote.failures (next_advances _ _ _ _ _ _ (stands
    g at) (read g at) c.in-Some.is (turn g at) wrote.size wrote.changes c.in_ok-step.ensures.ok c.step.ensures.written) c.in_ok-step.ensures.wrote.made)

pub step-requires-clause-more : goal.step-requires-clause-more
step-requires-clause-more g c κs within =
    let at = (goal.at.step-requires-clause-more g c).In-Some-last in
    moves_below _ _ c.in-Some.is (way _ _ (stands g at) _ c.in-Some.is) (turn g at)

pub invariant_of-self : goal.invariant_of-self
invariant_of-self g c =
    let stores : EngineState = state_of c.self.inside in
    let same = ap (λ (o : Option ConversionState). let s : EngineState = record stores { converting = o } in s) (ap Some c.in_err-step.ensures.err ∙ sym c.in-Some.is) in
    record { whole = subst AreWhole (sym same) c.self.invariant.whole; enough = c.self.invariant.enough; enough_hashes = c.self.invariant.enough_hashes }

pub invariant_of-self-2 : goal.invariant_of-self-2
invariant_of-self-2 g c =
    let at = (goal.at.invariant_of-self-2 g c).In-Some-last in
    let wrote = c.step.ensures.wrote in
    let goes = next_advances _ _ _ _ _ _ (stands g at) (read g at) c.in-Some.is (turn g at) wrote.size wrote.changes c.in_ok-step.ensures.ok c.step.ensures.written in
    record { whole = goes.stands.whole; enough = c.self.invariant.enough; enough_hashes = c.self.invariant.enough_hashes }

pub returns-clause-converts : goal.returns-clause-converts
returns-clause-converts g c =
    let at = (goal.at.returns-clause-converts g c).In-Some-last in
    rw (← c.self.view_is) (next_converts _ _ _ _ c.in-Some.is (turn g at) c.in_ok-step.ensures.ok.next)
