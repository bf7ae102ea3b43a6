use Rattle.silt_log.proofs.Common.{◌≡◌, ℕ, length, refl, ◌∙◌, Shape, row_len, bodies_at}
use Rattle.silt_log.proofs.ScanExits.{scan_count, scan_stale}
use Rattle.silt_log.proofs.log.Log.scan_commits.Goals as goal

pub returns-clause-ok : goal.returns-clause-ok
returns-clause-ok g c = λ honest.
    let shape : Shape = c.self.inside.geometry in
    let region : ℕ = c.self.inside.region in
    let shown = (g.D.Disk.content c.args.disk.now).shown in
    let found = c.in_ok-count.ensures.found honest in
    let buffer : length c.deref_mut.result.now ≡ shape.log_capacity = c.deref_mut.ensures.len ∙ c.self.invariant.buffer in
    let counted = scan_count shape region shown _ _ (bodies_at shape region) (row_len shape) _ c.commits_at-at.ensures.value buffer refl refl found.0 in
    let stale = scan_stale shape region shown _ _ (bodies_at shape region) (row_len shape) _ c.commits_at-at.ensures.value buffer refl refl found.0 _ found.1 in
    record { settled = counted; used = counted; stale = stale }
