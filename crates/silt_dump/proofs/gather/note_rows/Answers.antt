use Rattle.silt_dump.proofs.Common.{ap, ◌∙◌, arith, all_count, held_stores, log_at, row_of_log}
use Rattle.silt_log_store.specs.State.{LogStoreState}
use Rattle.silt_dump.proofs.Noting.{notes_logged, notes_whole}
use Rattle.silt_dump.proofs.gather.note_rows.Goals as goal

pub loop-place-preserved : goal.loop-place-preserved
loop-place-preserved g c =
    let used = ap (λ (store : LogStoreState). store.log.used) c.log_of-log.ensures in
    notes_logged _ _ c.args.number c.loop-place.place c.read_row.new.out _ _ _ _ _
    c.requires.number (omega (arith, c.loop-place-test.true, c.len-place-end.ensures.value, used)) c.spot_in-spot.ensures.key c.spot_in-spot.ensures.spot
    (λ honest. c.in_default.ensures.row honest ∙ ap (λ (store : LogStoreState). row_of_log (g.D.Disk.content c.args.disk.now) store c.loop-place.place) c.log_of-log.ensures)
    c.in-Ok.ensures.updates c.loop-place.invariant

pub returns-clause-notes : goal.returns-clause-notes
returns-clause-notes g c =
    let used = ap (λ (store : LogStoreState). store.log.used) c.log_of-log.ensures in
    let count = all_count (g.D.Disk.content c.args.disk.now) (log_at (held_stores c.args.held.now) c.args.number).log in
    notes_whole _ _ _ _ _ _ (omega (arith, count, c.loop-place-test.false, c.loop-place.auto.place-end, c.len-place-end.ensures.value, used)) c.loop-place.invariant
