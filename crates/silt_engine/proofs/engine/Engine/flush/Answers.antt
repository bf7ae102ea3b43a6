use Rattle.silt_engine.proofs.Common.{◌*◌, Bool, cond, sym, subst, ◌∙◌, EngineState, Makes, Stands, none_made}
use Rattle.silt_engine.proofs.Flushes.{quiet_when}
use Rattle.silt_engine.proofs.Exits.{state_of, nothing_done}
use Rattle.silt_engine.proofs.engine.Engine.flush.Goals as goal

pub returns-then-not-has_waiting-clause-works : goal.returns-then-not-has_waiting-clause-works
returns-then-not-has_waiting-clause-works g c =
    let stands = subst (λ (v : EngineState). Stands (g.D.Disk.content c.args.disk.now) v) (sym c.self.view_is) c.requires in
    let none = sym c.has_waiting.ensures.value ∙ c.if-not-has_waiting.true in
    let made = subst (λ (b : Bool). Makes g.D.Disk.writes g.D.Disk.syncs (cond b 1 0) (2 * cond b 1 0) c.args.disk.now c.args.disk.now) (sym none) none_made in
    rw (← c.self.view_is) (nothing_done g.D.Disk c.args.disk.now (state_of c.self.inside) _ stands made)

pub returns-then-not-has_waiting-clause-quiet : goal.returns-then-not-has_waiting-clause-quiet
returns-then-not-has_waiting-clause-quiet g c =
    let stands = rw (← c.self.view_is) at c.requires in
    rw (← c.self.view_is) (quiet_when _ _ stands (sym c.has_waiting.ensures.value ∙ c.if-not-has_waiting.true))
