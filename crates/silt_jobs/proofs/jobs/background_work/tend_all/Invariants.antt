use Rattle.silt_jobs.proofs.BackgroundWork.{Counted}
use Rattle.silt_jobs.proofs.jobs.background_work.tend_all.Given as goal

abbrev pub invariant-loop-turn : goal.invariant-loop-turn
invariant-loop-turn g l = Counted g.D.Disk l.fn.least l.fn.core l.core l.steps.converted l.steps.merged l.turn
