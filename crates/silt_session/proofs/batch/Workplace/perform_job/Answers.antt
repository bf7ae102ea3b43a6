use Rattle.silt_session.proofs.Common.{ap, sym, ◌∙◌, Some}
use Rattle.silt_session.proofs.Batches.{performed_same}
use Rattle.silt_session.proofs.batch.Workplace.perform_job.Goals as goal

pub invariant_of-tasks : goal.invariant_of-tasks
invariant_of-tasks g c = c.tasks.invariant ∙ ap Some (sym (performed_same g.D.Disk g.T.Trace _ _ _ _ _ _ c.perform_tasks.ensures.steps))
