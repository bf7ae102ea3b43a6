use Rattle.silt_jobs.proofs.BackgroundWork.{Going}
use Rattle.silt_jobs.proofs.jobs.background_work.tend_due.Given as goal

abbrev pub invariant-loop-turn : goal.invariant-loop-turn
invariant-loop-turn g l = Going g.D.Disk l.fn.least l.fn.core l.core l._turn
