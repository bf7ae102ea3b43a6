use Rattle.silt_store_set.proofs.Common.{inl, refl}
use Rattle.silt_store_set.proofs.Calls.{refused, refused_failed}
use Rattle.silt_store_set.proofs.store_core.Core.delete.Goals as goal

pub returns-then-self : goal.returns-then-self
returns-then-self g c = rw (← c.self.view_is) (refused_failed g.D.Disk _ _ c.if-self.true c.if-self.true)

pub returns-then-self-eq-MOST_COMMANDS : goal.returns-then-self-eq-MOST_COMMANDS
returns-then-self-eq-MOST_COMMANDS g c = rw (← c.self.view_is, c.if-self.false) (refused g.D.Disk _ _ _ _ _
    (c.self.invariant.stands c.if-self.false) refl (refl, inl c.if-self-eq-MOST_COMMANDS.true))
