use Rattle.silt_hash_store.proofs.Common.{arith}
use Rattle.silt_hash_store.proofs.Reading.{front_read, front_value}
use Rattle.silt_hash_store.proofs.region.HashRegion.read_front.Goals as goal

pub returns-clause-head : goal.returns-clause-head
returns-clause-head g c = λ honest.
    let region = c.args.self.now in
    front_read region.geometry region.number c.args.slot c.slot_at.result _ _ _ _ c.head_said.result c.slot_at.ensures.value (omega (arith, c.slot_at.ensures.fits, c.requires.size))
    c.requires.least c.requires.most (c.in_ok-read.ensures.bytes honest) c.copy_from_slice.ensures.after c.head_said.ensures

pub returns-clause-value : goal.returns-clause-value
returns-clause-value g c = λ honest whole.
    let region = c.args.self.now in
    front_value region.geometry region.number c.args.slot c.slot_at.result _ _ _ c.slot_at.ensures.value whole (c.in_ok-read.ensures.bytes honest)
