use Rattle.silt_engine.proofs.Common.{ne_eqb, sym, Key, row_of}
use Rattle.silt_engine.proofs.Folds.{bytes_from, does_delete, does_row}
use Rattle.silt_engine.proofs.entries.do_row.Goals as goal

pub returns-in_ok-put_value : goal.returns-in_ok-put_value
returns-in_ok-put_value c =
    let key : Key = record { 0 = c.copy_from_slice.new.self } in
    does_row (row_of c.args.bytes.now) key _ c.args.entries.now c.put_value.new.entries c.if-bytes-eq-PUT.true c.copy_from_slice.ensures.after
    (bytes_from c.args.bytes.now 21) c.in_ok-put_value.ensures

pub returns-else-bytes-eq-PUT : goal.returns-else-bytes-eq-PUT
returns-else-bytes-eq-PUT c =
    let key : Key = record { 0 = c.copy_from_slice.new.self } in
    does_delete (row_of c.args.bytes.now) key c.args.entries.now c.remove-older.new.self (ne_eqb _ 1 c.if-bytes-eq-PUT.false) (sym c.copy_from_slice.ensures.after) c.remove-older.ensures.updates
