use Rattle.silt_engine.proofs.Common.{◌≡◌, ◌==◌, ap, sym, ◌∙◌, subst, kind_byte, slot_row, StoredRow, IsRowAt, IsRow}
use Rattle.silt_engine.proofs.Folds.{does_delete, does_kept}
use Rattle.silt_engine.proofs.entries.do_slot.Goals as goal

pub returns-in-Delete-clause-ok : goal.returns-in-Delete-clause-ok
returns-in-Delete-clause-ok g c = λ honest.
    let row : StoredRow = slot_row c.args.store.now.shape c.args.store.now.region (g.D.Disk.content c.args.disk.now).shown c.args.slot in
    let is : IsRow c.args.slot row c.in-Ok-Some.row = subst (IsRowAt row c.args.slot) c.in-Ok-Some.field-0-is (c.in-Ok-Some.ensures.row honest) in
    let two : row.kind ≡ 2 = sym is.kind ∙ ap kind_byte c.in-Delete.is in
    does_kept row c.args.entries.now c.remove-older.new.self is.known
    (does_delete row c.in-Ok-Some.row.key c.args.entries.now c.remove-older.new.self (ap (λ n. n == 1) two) (sym is.key) c.remove-older.ensures.updates)
