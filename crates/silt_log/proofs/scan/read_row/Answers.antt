use Rattle.silt_log.proofs.Common.{◌≡◌, true, sym, ap, ◌∙◌, is_ok}
use Rattle.std.specs.Result.{result_ok}
use Rattle.silt_log.proofs.Scanned.{on_ok_at, row_read}
use Rattle.silt_log.proofs.scan.read_row.Goals as goal

pub returns-clause-row : goal.returns-clause-row
returns-clause-row g c = λ honest.
    let ok : is_ok c.read.result ≡ true = sym c.map_err.ensures.variant ∙ ap is_ok c.in_ok-map_err.was in
    let read = on_ok_at c.read.result ok (c.read.ensures.bytes honest) in
    let at = rw c.from.ensures at read in
    row_read _ _ _ (g.D.Disk.content c.args.disk.now).shown _ _ _ c.requires.fits c.requires.len at (sym c.head_of.ensures ∙ c.ok_or.ensures.ok_part ∙ ap result_ok c.in_ok-kind.was)
