use Rattle.silt_store_set.proofs.Common.{◌≡◌, inl, refl, ap, sym, ◌∙◌, arith, Shape}
use Rattle.silt_store_set.proofs.Calls.{refused, refused_failed}
use Rattle.silt_store_set.proofs.store_core.Core.put.Goals as goal

pub returns-then-self : goal.returns-then-self
returns-then-self g c = rw (← c.self.view_is) (refused_failed g.D.Disk _ _ c.if-self.true c.if-self.true)

pub returns-then-self-eq-MOST_COMMANDS : goal.returns-then-self-eq-MOST_COMMANDS
returns-then-self-eq-MOST_COMMANDS g c = rw (← c.self.view_is, c.if-self.false) (refused g.D.Disk _ _ _ _ _
    (c.self.invariant.stands c.if-self.false) refl (refl, inl c.if-self-eq-MOST_COMMANDS.true))

pub returns-then-charge-sorted_capacity : goal.returns-then-charge-sorted_capacity
returns-then-charge-sorted_capacity g c =
    let full : c.self.inside.engine.charge ≡ c.self.inside.engine.manifest.shape.sorted_capacity =
    sym c.charge.ensures.value ∙ c.if-charge-sorted_capacity.true ∙ c.sorted_capacity.ensures.value ∙ ap (λ (s : Shape). s.sorted_capacity) c.geometry.ensures.value in
    rw (← c.self.view_is, c.if-self.false) (refused g.D.Disk _ _ _ _ _
    (c.self.invariant.stands c.if-self.false) refl (record { working = refl; count = omega (arith, c.self.invariant.count_most, c.if-self-eq-MOST_COMMANDS.false) }, full))
