use Rattle.silt_hash_store.proofs.Common.{length, arith, size}
use Rattle.silt_hash_store.proofs.Reading.{slots_read, slots_within}
use Rattle.silt_hash_store.proofs.Elsewhere.{slots_inside}
use Rattle.silt_hash_store.proofs.region.HashRegion.read_slots.Goals as goal

pub read-requires : goal.read-requires
read-requires g c =
    let region = c.args.self.now in
    slots_within region.geometry region.number c.args.slot c.args.count c.slot_at.result (length c.args.rows.now) (size (g.D.Disk.content c.args.disk.now))
    (omega (arith, slots_inside region.geometry region.number region.there, c.requires.size)) c.requires.within c.slot_at.ensures.value c.requires.rows

pub returns-clause-slots : goal.returns-clause-slots
returns-clause-slots g c = λ honest.
    let region = c.args.self.now in
    let content = g.D.Disk.content c.args.disk.now in
    let fits = slots_within region.geometry region.number c.args.slot c.args.count c.slot_at.result (length c.args.rows.now) (size content)
    (omega (arith, slots_inside region.geometry region.number region.there, c.requires.size)) c.requires.within c.slot_at.ensures.value c.requires.rows in
    slots_read region.geometry region.number c.args.slot c.args.count c.slot_at.result (length c.args.rows.now) content.shown _
    c.slot_at.ensures.value c.requires.rows fits (c.in_ok-read.ensures.bytes honest)
