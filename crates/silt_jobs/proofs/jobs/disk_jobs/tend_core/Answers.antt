use Rattle.silt_jobs.proofs.Common.{inr, IfOk-weaker}
use Rattle.silt_jobs.proofs.jobs.disk_jobs.tend_core.Goals as goal

pub returns-in-Err : goal.returns-in-Err
returns-in-Err g c =
    IfOk-weaker c.refuse.result _ _
    (λ status printed. (g.W.Write.contents c.write_out.new.writer, c.in_ok-write_out.ensures, inr (printed.0, (c.in-Err.refusal, c.in-Err.ensures.refused, printed.1)))) c.refuse.ensures
