use Rattle.silt_jobs.proofs.Common.{inr, refl, IfOk-weaker}
use Rattle.silt_jobs.proofs.jobs.disk_jobs.tend_opened.Goals as goal

pub returns : goal.returns
returns g c =
    let last = IfOk-weaker c.tend_core-status.result _ _ (λ status tends. (c.tend_core-status.new.core, tends, c.close-disk.ensures.disk)) c.tend_core-status.ensures in
    rw (c.plain.ensures) (inr (refl, refl, c.of.ensures, last))
