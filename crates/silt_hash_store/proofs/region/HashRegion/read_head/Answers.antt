use Rattle.silt_hash_store.proofs.Common.{arith}
use Rattle.silt_hash_store.proofs.Reading.{head_read}
use Rattle.silt_hash_store.proofs.region.HashRegion.read_head.Goals as goal

pub returns-clause-head : goal.returns-clause-head
returns-clause-head g c = λ honest.
    let region = c.args.self.now in
    head_read region.geometry region.number c.args.slot c.slot_at.result _ _ c.head_said.result c.slot_at.ensures.value
    (omega (arith, c.slot_at.ensures.fits, c.requires.size)) (c.in_ok-read.ensures.bytes honest) c.head_said.ensures
