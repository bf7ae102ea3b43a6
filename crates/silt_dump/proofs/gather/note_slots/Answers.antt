use Rattle.silt_dump.proofs.Common.{◌≡◌, ap, arith, Shape, HashState, hash_store_at, held_stores}
use Rattle.silt_dump.proofs.Noting.{notes_no_slot, notes_slot, notes_slots}
use Rattle.silt_dump.proofs.gather.note_slots.Goals as goal

pub loop-slot-init : goal.loop-slot-init
loop-slot-init g c =
    let s = held_stores c.args.held.now in
    let store : HashState = hash_store_at s c.args.number in
    notes_no_slot (g.D.Disk.content c.args.disk.now) s store.shape store.region (g.D.Disk.content c.args.disk.now).shown c.args.spots.now

pub loop-slot-preserved : goal.loop-slot-preserved
loop-slot-preserved g c =
    let s = held_stores c.args.held.now in
    let store : HashState = hash_store_at s c.args.number in
    notes_slot (g.D.Disk.content c.args.disk.now) s store.shape store.region (g.D.Disk.content c.args.disk.now).shown c.loop-slot.slot c.args.spots.now c.loop-slot.spots c.note_slot.new.spots
    c.loop-slot.invariant c.in_ok-note_slot.ensures.notes

pub returns-clause-notes : goal.returns-clause-notes
returns-clause-notes g c =
    let s = held_stores c.args.held.now in
    let store : HashState = hash_store_at s c.args.number in
    let same : store.shape ≡ s.manifest.shape = (c.requires.holds.whole.hashed c.args.number _ c.requires.number).has_shape in
    notes_slots (g.D.Disk.content c.args.disk.now) s store.shape store.region (g.D.Disk.content c.args.disk.now).shown c.loop-slot.slot c.args.spots.now c.loop-slot.spots
    (omega (
      arith,
      c.loop-slot-test.false,
      c.loop-slot.auto.slot-end,
      c.buckets-slot-end.ensures.value,
      ap (λ (shape : Shape). shape.buckets) c.geometry.ensures.value,
      ap (λ (shape : Shape). shape.buckets) same,
    ))
    c.loop-slot.invariant
