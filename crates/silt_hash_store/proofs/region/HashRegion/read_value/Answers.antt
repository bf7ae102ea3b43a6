use Rattle.silt_hash_store.proofs.Common.{arith}
use Rattle.silt_hash_store.proofs.Reading.{value_read}
use Rattle.silt_hash_store.proofs.region.HashRegion.read_value.Goals as goal

pub returns-clause-value : goal.returns-clause-value
returns-clause-value g c = λ honest.
    let region = c.args.self.now in
    value_read region.geometry region.number c.args.slot c.slot_at.result _ _ _ c.slot_at.ensures.value
    (omega (arith, c.slot_at.ensures.fits, c.requires.size)) c.requires.out (c.in_ok-read.ensures.bytes honest)
