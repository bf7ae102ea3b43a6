use Rattle.silt_log_store.proofs.Common.{sym, ◌∙◌}
use Rattle.silt_log_store.proofs.Growth.{row_damaged, row_crowded, row_added}
use Rattle.silt_log_store.proofs.rebuild.add_row.Goals as goal

pub returns-in_default-clause-err : goal.returns-in_default-clause-err
returns-in_default-clause-err g c = λ honest are.
    let log = c.args.log.now in
    row_damaged _ _ _ _ _ c.requires.place _ c.requires.index.sound c.requires.index.buckets are (sym (c.in-Ok.ensures.head honest) ∙ c.in_default.is)

pub returns-in-Ok-true-clause-rows : goal.returns-in-Ok-true-clause-rows
returns-in-Ok-true-clause-rows g c = λ honest are.
    let log = c.args.log.now in
    row_added log.shape log.region (g.D.Disk.content c.args.disk.now).shown log.used c.args.place c.requires.place c.args.index.now c.requires.index.sound c.requires.index.buckets are
    c.in-Some.kind c.in-Some.key _ (sym (c.in-Ok.ensures.head honest) ∙ c.in-Some.is) (rw c.in-Ok-true.field-0-test at c.in-Ok-true.ensures)

pub returns-in-Ok-false-clause-err : goal.returns-in-Ok-false-clause-err
returns-in-Ok-false-clause-err g c = λ honest are.
    let log = c.args.log.now in (
      c.args.place,
      row_crowded _ _ _ _ _ c.requires.place _ c.requires.index.sound c.requires.index.buckets are
          _ _ (sym (c.in-Ok.ensures.head honest) ∙ c.in-Some.is) (rw c.in-Ok-false.field-0-test at c.in-Ok-false.ensures),
    )
