use Rattle.silt_conversion.proofs.Common.{◌≡◌, IsTrue, drop, length, ap, sym, ◌∙◌, rules, arith, take_at, entry_at, Shape, row_of, all_rows, IsFrozenStore}
use Rattle.silt_disk.proofs.Wrote.{wrote_refused}
use Rattle.silt_conversion.specs.Conversion.{converted_row, with_entry}
use Rattle.silt_conversion.proofs.Writing.{conversion_of, frozen_kept, held_as, step_made, written_kept, written_step}
use Rattle.silt_conversion.proofs.conversion.Conversion.step.Goals as goal

pub returns-in-Err-write_slot-clause-written : goal.returns-in-Err-write_slot-clause-written
returns-in-Err-write_slot-clause-written g c =
    let conversion = conversion_of c.self.inside in
    let more = rw (← c.self.view_is) at c.requires.more in
    let shape = rw (← c.self.view_is) at c.requires.shape in
    let fits = rw (← c.self.view_is) at c.requires.size in
    rw (← c.self.view_is) (λ frozen. written_kept _ _ c.args.log.now conversion c.read_due.ensures.held.bounds shape fits c.write_slot.ensures.wrote.changes c.self.invariant.there more)

pub returns-in-Err-write_slot-clause-frozen : goal.returns-in-Err-write_slot-clause-frozen
returns-in-Err-write_slot-clause-frozen g c =
    let conversion = conversion_of c.self.inside in
    let shape = rw (← c.self.view_is) at c.requires.shape in
    let fits = rw (← c.self.view_is) at c.requires.size in
    frozen_kept _ _ c.args.log.now conversion c.read_due.ensures.held.bounds shape fits c.write_slot.ensures.wrote.changes

pub invariant_of-self-2 : goal.invariant_of-self-2
invariant_of-self-2 g c =
    let more = rw (← c.self.view_is) at c.requires.more in
    held_as (conversion_of c.self.inside) c.note_entry.new.tags c.self.inside.row.len c.in-Ok.puts c.update.new.self c.slot.result c.self.invariant more c.in-Ok.ensures.most c.note_entry.ensures

pub returns : goal.returns
returns g c =
    let conversion = conversion_of c.self.inside in
    let log = c.args.log.now in
    let old = g.D.Disk.content c.args.disk.now in
    let more = rw (← c.self.view_is) at c.requires.more in
    let shape = rw (← c.self.view_is) at c.requires.shape in
    let fits = rw (← c.self.view_is) at c.requires.size in
    let bounds = c.read_due.ensures.held.bounds in
    let changes = c.write_slot.ensures.wrote.changes in
    let tags : c.note_entry.new.tags ≡ with_entry conversion.tags conversion.next (entry_at log.table conversion.next) =
    c.note_entry.ensures ∙ ap (with_entry conversion.tags conversion.next) c.slot.ensures.value in
    let rows = all_rows old log.log in
    let due : IsTrue old.honest → IsFrozenStore old log → row_of c.read_due.new.out ≡ converted_row conversion.shape log.table rows conversion.next =
    λ honest frozen. c.in-Ok.ensures.due honest frozen.index ∙ ap (λ (s : Shape). converted_row s log.table rows conversion.next) (sym shape) in
    let row = take_at c.read_due.new.out (drop (length c.read_due.new.out) c.self.inside.row.items) c.self.inside.row.len (omega arith) in
    let steps = step_made log old (g.D.Disk.content c.write_slot.new.disk) conversion c.note_entry.new.tags c.in-Ok.puts c.update.new.self
    c.read_due.new.out c.deref.result.now c.deref-2.result.now tags due c.in-Ok.ensures.puts c.in_default.ensures.written
    (c.deref.ensures.value ∙ row) c.update.ensures (c.deref-2.ensures.value ∙ row) (omega (arith, c.self.invariant.buffer)) in
    rw (← c.self.view_is) (record {
      wrote = search rules;
      ok = steps;
      err = search rules;
      written = λ frozen. written_step _ _ log conversion bounds shape fits changes _ c.self.invariant.there more c.self.invariant.long
          (c.self.invariant.later conversion.next (omega arith)) steps frozen;
      frozen = frozen_kept _ _ log conversion bounds shape fits changes;
    })

pub returns-in-Err-clause-wrote : goal.returns-in-Err-clause-wrote
returns-in-Err-clause-wrote g c = wrote_refused _ _ _ _ _ _ (search rules)
