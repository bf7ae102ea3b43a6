use Rattle.silt_log.proofs.Common.{◌≡◌, ℕ, true, cond, Bool, vec_len, ◌+◌, sym, ap, ◌∙◌, err_from_is_err_and, body_row, StoredRow, is_ok}
use Rattle.silt_log.proofs.Scanned.{rows_more, known_more, refused_here, pushed_ok}
use Rattle.silt_log.proofs.scan.read_rows.Goals as goal

pub loop-place-preserved : goal.loop-place-preserved
loop-place-preserved g c =
    let stored : ℕ → StoredRow = body_row c.args.bodies c.args.row_len (g.D.Disk.content c.args.disk.now).shown in
    let ok : is_ok c.push.result ≡ true = sym c.map_err-in-loop-place.ensures.variant ∙ ap is_ok c.in_ok-map_err.was in
    let items = pushed_ok c.push.result c.loop-place.rows.items c.push.new.self.items c.in_ok-row.row ok c.push.ensures.items in
    record {
      len = c.push.ensures.len ∙ ap (λ (b : Bool). cond b (vec_len c.loop-place.rows + 1) (vec_len c.loop-place.rows)) ok ∙ ap (λ (n : ℕ). n + 1) c.loop-place.invariant.len;
      rows = λ honest. rw items (rows_more c.loop-place.rows.items stored c.in_ok-row.row c.loop-place.place (c.loop-place.invariant.rows honest) (c.in_ok-row.ensures.row honest));
      known = λ honest. known_more stored c.loop-place.place (c.loop-place.invariant.known honest) (c.in_ok-row.ensures.row honest).known;
    }

pub returns-in_err-row-clause-err : goal.returns-in_err-row-clause-err
returns-in_err-row-clause-err g c =
    let refused = err_from_is_err_and c.from_residual-in_err-row.result c.from_residual-in_err-row.ensures.1 in
    let stored : ℕ → StoredRow = body_row c.args.bodies c.args.row_len (g.D.Disk.content c.args.disk.now).shown in
    rw (refused.1, refused.2) (refused_here _ stored c.args.count c.loop-place.place _ c.in_err-row.field-0.0 c.loop-place-test.true c.loop-place.invariant.known c.in_err-row.ensures.err)
