use Rattle.silt_log.proofs.Common.{◌≡◌, ℕ, length, ◌∙◌, err_from_is_err_and, Shape}
use Rattle.silt_log.proofs.ScanExits.{mapped_ok, scan_count, scan_stale, scan_rows, scan_refused}
use Rattle.silt_log.proofs.log.Log.scan.Goals as goal

pub returns-in_err-rows-clause-refusal : goal.returns-in_err-rows-clause-refusal
returns-in_err-rows-clause-refusal g c =
    let read = mapped_ok _ c.read_commits.result c.map_err.result (c.in_ok-count.count, c.in_ok-count.stale) c.map_err.ensures.variant c.map_err.ensures.cases c.in_ok-count.was in
    let buffer : length c.deref_mut.result.now ≡ c.self.inside.geometry.log_capacity = c.deref_mut.ensures.len ∙ c.self.invariant.buffer in
    let refused = err_from_is_err_and c.from_residual-in_err-rows.result c.from_residual-in_err-rows.ensures.1 in
    rw (refused.1, refused.2, ← c.self.view_is) (scan_refused _ c.self.inside.geometry c.self.inside.region (g.D.Disk.content c.args.disk.now).shown _ _ _ _ _ _ c.in_err-rows.field-0.0
    c.commits_at-at.ensures.value buffer c.bodies_at-bodies.ensures.value c.row_len-row_len.ensures.value (λ honest. (rw read at (c.read_commits.ensures.found honest)).0) c.in_err-rows.ensures.err)

pub returns-clause-ok : goal.returns-clause-ok
returns-clause-ok g c = λ honest.
    let shape : Shape = c.self.inside.geometry in
    let region : ℕ = c.self.inside.region in
    let shown = (g.D.Disk.content c.args.disk.now).shown in
    let read = mapped_ok _ c.read_commits.result c.map_err.result (c.in_ok-count.count, c.in_ok-count.stale) c.map_err.ensures.variant c.map_err.ensures.cases c.in_ok-count.was in
    let found = rw read at (c.read_commits.ensures.found honest) in
    let buffer : length c.deref_mut.result.now ≡ shape.log_capacity = c.deref_mut.ensures.len ∙ c.self.invariant.buffer in
    let counted = scan_count shape region shown _ _ _ _ _ c.commits_at-at.ensures.value buffer c.bodies_at-bodies.ensures.value c.row_len-row_len.ensures.value found.0 in
    let stale = scan_stale shape region shown _ _ _ _ _ c.commits_at-at.ensures.value buffer c.bodies_at-bodies.ensures.value c.row_len-row_len.ensures.value found.0 _ found.1 in
    let rows = scan_rows shape region shown _ _ _ _ _ c.commits_at-at.ensures.value buffer c.bodies_at-bodies.ensures.value
    c.row_len-row_len.ensures.value found.0 _ (c.in_ok-rows.ensures.rows honest) in
    rw (← c.self.view_is) (record { settled = counted; used = counted; stale = stale }, rows)
