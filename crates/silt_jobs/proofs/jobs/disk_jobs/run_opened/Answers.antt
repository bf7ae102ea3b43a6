use Rattle.silt_jobs.proofs.Common.{◌∙◌, ap, inr, Shape, HasFailed}
use Rattle.silt_jobs.proofs.SessionEnds.{life_ended}
use Rattle.silt_jobs.proofs.jobs.disk_jobs.run_opened.Goals as goal

pub returns : goal.returns
returns g c =
    let len = c.value_len-value_len.ensures.value ∙ ap (λ (s : Shape). s.value_len) c.geometry.ensures in
    inr (life_ended g.W.Write.contents g.W.KeepsError.kept_error g.W.KeepsTally.kept_tally c.args.options (g.R.KeepsError.kept_error c.answer_reader-core.new.reader) g.D.Disk
    _ _ _ _ _ _ c.end_session.result c.end_session.ensures (HasFailed g.D.Watched.kept_read g.D.Watched.last_failure) c.args.core c.answer_reader-core.result.0 c.close-disk.result
    len c.of-failures.ensures c.close-disk.ensures.disk c.answer_reader-core.ensures)
