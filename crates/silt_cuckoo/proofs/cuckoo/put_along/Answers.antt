-- The path leads on, names no slot twice and stays inside the table.
use Rattle.silt_cuckoo.proofs.Common.{◌<◌, length, refl, arith, unpacked, unpacked_all, length-map}
use Rattle.silt_cuckoo.proofs.Paths.{plan_inside, plan_apart, plan_begins, plan_placed}
use Rattle.silt_cuckoo.proofs.Unpacking.{unpacked_all_set}
use Rattle.silt_cuckoo.proofs.cuckoo.put_along.Goals.{After-new}
use Rattle.silt_cuckoo.proofs.cuckoo.put_along.Goals as goal

pub start-slot-requires : goal.start-slot-requires
start-slot-requires c = plan_begins (unpacked_all c.args.slots.now) c.args.path.now c.args.path.now.slots c.requires.table c.requires.planned refl

pub move_along-requires-clause-there : goal.move_along-requires-clause-there
move_along-requires-clause-there c = λ k low.
    let inside = plan_inside (unpacked_all c.args.slots.now) c.args.path.now c.slots.result.now c.requires.table c.requires.planned c.slots.ensures k low in
    omega (arith, length-map c.args.slots.now unpacked)

pub move_along-requires-clause-apart : goal.move_along-requires-clause-apart
move_along-requires-clause-apart c = plan_apart (unpacked_all c.args.slots.now) c.args.path.now c.slots.result.now c.requires.table c.requires.planned c.slots.ensures

-- the new entry's slot is one of the table's
inside : (c : After-new) → c.start-slot.result < length c.args.slots.now
inside c =
    let begins = plan_begins (unpacked_all c.args.slots.now) c.args.path.now c.args.path.now.slots c.requires.table c.requires.planned refl in
    let inside = plan_inside (unpacked_all c.args.slots.now) c.args.path.now c.args.path.now.slots c.requires.table c.requires.planned refl 0 begins in
    rw c.start-slot.ensures (omega (arith, length-map c.args.slots.now unpacked))

pub offset_bounds-slots-slot : goal.offset_bounds-slots-slot
offset_bounds-slots-slot c = omega (arith, inside c, c.requires.table.four_each, c.requires.table.buckets.most, length-map c.args.slots.now unpacked)

pub bounds-slots-slot : goal.bounds-slots-slot
bounds-slots-slot c = omega (arith, inside c, c.move_along.auto.slots)

pub returns : goal.returns
returns c =
    let placed_is = plan_placed (unpacked_all c.args.slots.now) c.args.path.now c.slots.result.now c.args.place c.requires.planned c.slots.ensures in
    rw (placed_is, unpacked_all_set, c.move_along.ensures, c.new.ensures, c.tag_in.ensures, c.start-slot.ensures, c.slots.ensures) refl
