use Rattle.silt_dump.proofs.Common.{◌<◌, ◌-◌, length, arith, get_or_default, hash_store_at, known_in, held_stores}
use Rattle.silt_dump.proofs.Noting.{notes_from_start, notes_store, notes_to_end}
use Rattle.silt_dump.proofs.gather.note_hashes.Goals as goal

pub loop-number-init : goal.loop-number-init
loop-number-init g c =
    let content = g.D.Disk.content c.args.disk.now in
    let s = held_stores c.args.held.now in
    notes_from_start content s (known_in content) c.args.held.now.hashes.items c.len-number.result c.args.spots.now (omega (arith, c.len-number.ensures, c.args.held.now.hashes.ok.0))

pub loop-number-preserved : goal.loop-number-preserved
loop-number-preserved g c =
    let content = g.D.Disk.content c.args.disk.now in
    let s = held_stores c.args.held.now in
    let stores = c.args.held.now.hashes.items in
    let number = c.loop-number.number - 1 in
    let inside : number < length stores = omega (arith, c.loop-number-test.true, c.loop-number.auto.number, c.len-number.ensures, c.args.held.now.hashes.ok.0) in
    notes_store content s (known_in content) stores number c.loop-number.number (hash_store_at s number) c.args.spots.now c.loop-number.spots c.note_slots.new.spots
    (omega (arith, c.loop-number-test.true)) inside (get_or_default stores number _ _ inside) c.loop-number.invariant c.in_ok-note_slots.ensures.notes

pub returns-clause-notes : goal.returns-clause-notes
returns-clause-notes g c =
    let content = g.D.Disk.content c.args.disk.now in
    let s = held_stores c.args.held.now in
    notes_to_end content s (known_in content) c.args.held.now.hashes.items c.loop-number.number c.args.spots.now c.loop-number.spots (omega (arith, c.loop-number-test.false)) c.loop-number.invariant
