use Rattle.silt_jobs.proofs.Common.{inr}
use Rattle.silt_jobs.proofs.jobs.files.tend_on.Goals as goal

pub returns-in-Ok : goal.returns-in-Ok
returns-in-Ok g c = inr (c.in-Ok.core, c.in-Ok.ensures.opened, c.tend_opened-disk.ensures)
