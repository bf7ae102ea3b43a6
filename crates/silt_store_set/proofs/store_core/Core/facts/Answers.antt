use Rattle.silt_store_set.proofs.Common.{refl}
use Rattle.silt_store_set.proofs.Numbers.{same_slots, same_steps}
use Rattle.silt_store_set.proofs.store_core.Core.facts.Goals as goal

pub returns : goal.returns
returns g c = rw (
  ← c.self.view_is,
  c.failed_count.ensures,
  c.charge.ensures.value,
  c.sorted_capacity.ensures.value,
  c.geometry.ensures.value,
  c.len.ensures.value,
  c.len-2.ensures.value,
  c.body-body.ensures,
  c.slots_converted.ensures,
  c.merge_steps.ensures,
  same_slots c.self.inside.engine.converting,
  same_steps c.self.inside.engine.merging,
) refl
