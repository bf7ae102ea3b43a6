use Rattle.silt_jobs.proofs.Common.{ap, ◌∙◌, Shape}
use Rattle.silt_jobs.proofs.jobs.disk_jobs.answer_lines.Goals as goal

pub returns-then-options : goal.returns-then-options
returns-then-options g c =
    let len = c.value_len-value_len.ensures.value ∙ ap (λ (s : Shape). s.value_len) c.geometry.ensures in
    rw (c.if-options.true, c.into_core.ensures, c.refusal-refusal.ensures) (c.session-end.new.answerer.least, rw (c.new-tending.ensures, len) at c.session-end.ensures.ends)
