use Rattle.silt_sorted_store.proofs.Common.{◌<◌, arith}
use Rattle.silt_disk.proofs.Wrote.{write_wrote, wrote_at, wrote_err, wrote_none, wrote_ok}
use Rattle.silt_sorted_store.proofs.Writing.{due_there, entries_kept, entry_written, none_counted, none_due, none_more, not_due, not_there, one_counted, region_changes}
use Rattle.silt_sorted_store.proofs.region.SortedRegion.write_due.Goals as goal

pub returns-then-not-is_due-clause-written : goal.returns-then-not-is_due-clause-written
returns-then-not-is_due-clause-written g c = λ honest. none_due c.args.self.now.geometry c.args.self.now.number c.args.place _ c.args.entry.now c.args.is_due c.requires.place c.if-not-is_due.true

pub returns-then-place-sorted_capacity-clause-written : goal.returns-then-place-sorted_capacity-clause-written
returns-then-place-sorted_capacity-clause-written g c =
    λ honest. none_more c.args.self.now.geometry c.args.self.now.number c.args.place _ c.args.entry.now c.args.is_due
    (omega (arith, c.if-place-sorted_capacity.true, c.sorted_capacity.ensures.value))

pub returns-in_err-write-clause-region : goal.returns-in_err-write-clause-region
returns-in_err-write-clause-region g c =
    let below : c.args.place < c.args.self.now.geometry.sorted_capacity = omega (arith, c.requires.place, c.if-place-sorted_capacity.false, c.sorted_capacity.ensures.value) in
    region_changes c.args.self.now.geometry c.args.self.now.number c.args.place c.entry_at.result c.args.entry.now _ _ c.entry_at.ensures.value c.requires.entry c.write.ensures.torn below

pub returns-in_err-write-clause-kept : goal.returns-in_err-write-clause-kept
returns-in_err-write-clause-kept g c =
    let below : c.args.place < c.args.self.now.geometry.sorted_capacity = omega (arith, c.requires.place, c.if-place-sorted_capacity.false, c.sorted_capacity.ensures.value) in
    entries_kept c.args.self.now.geometry c.args.self.now.number c.args.place c.entry_at.result c.args.entry.now _ _ c.entry_at.ensures.value
    c.requires.entry c.write.ensures.torn c.args.self.now.there below c.requires.size

pub returns-clause-region : goal.returns-clause-region
returns-clause-region g c =
    let below : c.args.place < c.args.self.now.geometry.sorted_capacity = omega (arith, c.requires.place, c.if-place-sorted_capacity.false, c.sorted_capacity.ensures.value) in
    region_changes c.args.self.now.geometry c.args.self.now.number c.args.place c.entry_at.result c.args.entry.now _ _ c.entry_at.ensures.value c.requires.entry c.write.ensures.torn below

pub returns-clause-kept : goal.returns-clause-kept
returns-clause-kept g c =
    let below : c.args.place < c.args.self.now.geometry.sorted_capacity = omega (arith, c.requires.place, c.if-place-sorted_capacity.false, c.sorted_capacity.ensures.value) in
    entries_kept c.args.self.now.geometry c.args.self.now.number c.args.place c.entry_at.result c.args.entry.now _ _ c.entry_at.ensures.value
    c.requires.entry c.write.ensures.torn c.args.self.now.there below c.requires.size

pub returns-clause-written : goal.returns-clause-written
returns-clause-written g c =
    let below : c.args.place < c.args.self.now.geometry.sorted_capacity = omega (arith, c.requires.place, c.if-place-sorted_capacity.false, c.sorted_capacity.ensures.value) in
    entry_written c.args.self.now.geometry c.args.self.now.number c.args.place c.entry_at.result c.args.entry.now _ _ c.entry_at.ensures.value c.requires.entry c.write.ensures.torn c.args.is_due
    c.if-not-is_due.false c.args.self.now.there below c.requires.size c.in_ok-write.ensures.written

pub returns-then-not-is_due-clause-count : goal.returns-then-not-is_due-clause-count
returns-then-not-is_due-clause-count g c = none_counted _ c.args.place (not_due c.args.is_due c.args.place c.args.self.now.geometry.sorted_capacity c.if-not-is_due.true)

pub returns-then-place-sorted_capacity-clause-count : goal.returns-then-place-sorted_capacity-clause-count
returns-then-place-sorted_capacity-clause-count g c =
    none_counted _ c.args.place (not_there c.args.is_due c.args.place c.args.self.now.geometry.sorted_capacity c.if-not-is_due.false
    (omega (arith, c.if-place-sorted_capacity.true, c.sorted_capacity.ensures.value)))

pub returns-clause-count : goal.returns-clause-count
returns-clause-count g c =
    let below : c.args.place < c.args.self.now.geometry.sorted_capacity = omega (arith, c.requires.place, c.if-place-sorted_capacity.false, c.sorted_capacity.ensures.value) in
    one_counted _ c.args.place (due_there c.args.is_due c.args.place c.args.self.now.geometry.sorted_capacity c.if-not-is_due.false below)

pub returns-then-not-is_due-clause-wrote : goal.returns-then-not-is_due-clause-wrote
returns-then-not-is_due-clause-wrote g c =
    let none = not_due c.args.is_due c.args.place c.args.self.now.geometry.sorted_capacity c.if-not-is_due.true in
    rw none (wrote_none _ _ _ _)

pub returns-then-place-sorted_capacity-clause-wrote : goal.returns-then-place-sorted_capacity-clause-wrote
returns-then-place-sorted_capacity-clause-wrote g c =
    let none = not_there c.args.is_due c.args.place c.args.self.now.geometry.sorted_capacity c.if-not-is_due.false (omega (arith, c.if-place-sorted_capacity.true, c.sorted_capacity.ensures.value)) in
    rw none (wrote_none _ _ _ _)

pub returns-in_err-write-clause-wrote : goal.returns-in_err-write-clause-wrote
returns-in_err-write-clause-wrote g c =
    let below : c.args.place < c.args.self.now.geometry.sorted_capacity = omega (arith, c.requires.place, c.if-place-sorted_capacity.false, c.sorted_capacity.ensures.value) in
    let one = due_there c.args.is_due c.args.place c.args.self.now.geometry.sorted_capacity c.if-not-is_due.false below in
    let wrote = write_wrote c.write.result c.write.ensures.size c.write.ensures.made c.write.ensures.torn c.write.ensures.failures in
    rw one (wrote_err c.in_err-write.was c.from_residual.ensures.1 (omega arith) (omega arith) (wrote_at c.entry_at.ensures.value c.requires.entry wrote))

pub returns-clause-wrote : goal.returns-clause-wrote
returns-clause-wrote g c =
    let below : c.args.place < c.args.self.now.geometry.sorted_capacity = omega (arith, c.requires.place, c.if-place-sorted_capacity.false, c.sorted_capacity.ensures.value) in
    let one = due_there c.args.is_due c.args.place c.args.self.now.geometry.sorted_capacity c.if-not-is_due.false below in
    let wrote = write_wrote c.write.result c.write.ensures.size c.write.ensures.made c.write.ensures.torn c.write.ensures.failures in
    rw one (wrote_ok c.in_ok-write.was (wrote_at c.entry_at.ensures.value c.requires.entry wrote))
