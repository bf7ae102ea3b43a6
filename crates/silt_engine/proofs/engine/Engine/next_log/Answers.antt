use Rattle.silt_engine.proofs.Common.{ap, ◌∙◌, Shape, Body, NextLog, EngineState, next_body}
use Rattle.silt_engine.proofs.Counting.{has_room, is_next, no_room, not_all}
use Rattle.silt_engine.proofs.Exits.{state_of}
use Rattle.silt_engine.proofs.engine.Engine.next_log.Goals as goal

pub returns-in_default-clause-err : goal.returns-in_default-clause-err
returns-in_default-clause-err c =
    let stores : EngineState = state_of c.self.inside in
    let logs = c.logs.ensures.value ∙ ap (λ (sh : Shape). sh.logs) c.geometry-geometry.ensures.value in
    let named = rw c.current-current.ensures.value at c.in_default.ensures.none in
    rw (← c.self.view_is) (no_room stores _ c.logs.result logs c.self.invariant.whole c.current-current.ensures.sound named)

pub returns-then-current-eq-LAST_GENERATION-clause-err : goal.returns-then-current-eq-LAST_GENERATION-clause-err
returns-then-current-eq-LAST_GENERATION-clause-err c =
    let stores : EngineState = state_of c.self.inside in
    let logs = c.logs.ensures.value ∙ ap (λ (sh : Shape). sh.logs) c.geometry-geometry.ensures.value in
    let lowest = rw c.current-current.ensures.value at c.in-Some.ensures.some in
    rw (← c.self.view_is) (
      not_all stores (has_room stores _ c.logs.result c.in-Some.region logs c.self.invariant.whole c.current-current.ensures.sound lowest),
      cc (c.current-current.ensures.value, c.if-current-eq-LAST_GENERATION.true),
    )

pub returns-in-Ok-clause-ok : goal.returns-in-Ok-clause-ok
returns-in-Ok-clause-ok c =
    let stores : EngineState = state_of c.self.inside in
    let logs = c.logs.ensures.value ∙ ap (λ (sh : Shape). sh.logs) c.geometry-geometry.ensures.value in
    let lowest = rw c.current-current.ensures.value at c.in-Some.ensures.some in
    let next : NextLog = record { store = c.in-Ok.store; body = c.next_body.result } in
    rw (← c.self.view_is) (is_next stores _ _ _ next logs c.self.invariant.whole c.current-current.ensures.sound lowest (λ e. c.if-current-eq-LAST_GENERATION.false (ap (λ (b : Body).
    b.generation) c.current-current.ensures.value ∙ e)) (cc (c.next_body.ensures, c.current-current.ensures.value)) (cc (c.in-Ok.ensures, c.geometry-geometry.ensures.value)))

pub returns-in-Err-clause-err : goal.returns-in-Err-clause-err
returns-in-Err-clause-err c =
    let stores : EngineState = state_of c.self.inside in
    let logs = c.logs.ensures.value ∙ ap (λ (sh : Shape). sh.logs) c.geometry-geometry.ensures.value in
    let lowest = rw c.current-current.ensures.value at c.in-Some.ensures.some in
    rw (← c.self.view_is) (
      not_all stores (has_room stores _ c.logs.result c.in-Some.region logs c.self.invariant.whole c.current-current.ensures.sound lowest),
      λ e. c.if-current-eq-LAST_GENERATION.false (ap (λ (b : Body). b.generation) c.current-current.ensures.value ∙ e),
    )
