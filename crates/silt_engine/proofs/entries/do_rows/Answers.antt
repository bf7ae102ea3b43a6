use Rattle.silt_engine.proofs.Common.{sym, ◌∙◌, arith, row_of, all_rows, all_count, row_of_all}
use Rattle.silt_engine.proofs.Folds.{does_next, does_whole}
use Rattle.silt_engine.proofs.entries.do_rows.Goals as goal

pub loop-place-preserved : goal.loop-place-preserved
loop-place-preserved g c = λ honest.
    let content = g.D.Disk.content c.args.disk.now in
    let log = c.args.store.now.log in
    let row = row_of c.read_row.new.out in
    does_next (all_rows content log) c.loop-place.place row c.args.entries.now c.loop-place.entries c.do_row.new.entries
    (omega (arith, all_count content log, c.loop-place-test.true, c.len-place-end.ensures.value)) (row_of_all content log c.loop-place.place row
    (omega (arith, c.loop-place-test.true, c.len-place-end.ensures.value)) ∙ sym (c.in_default.ensures.row honest)) (c.loop-place.invariant honest) c.in-Ok.ensures

pub returns-clause-ok : goal.returns-clause-ok
returns-clause-ok g c = λ honest.
    let content = g.D.Disk.content c.args.disk.now in
    let log = c.args.store.now.log in
    does_whole (all_rows content log) c.loop-place.place c.args.entries.now c.loop-place.entries
    (omega (arith, all_count content log, c.loop-place-test.false, c.loop-place.auto.place-end, c.len-place-end.ensures.value)) (c.loop-place.invariant honest)
