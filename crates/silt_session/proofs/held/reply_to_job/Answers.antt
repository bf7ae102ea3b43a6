use Rattle.silt_session.proofs.Common.{ap, sym, ◌∙◌, Some}
use Rattle.silt_session.proofs.Batches.{replied_same}
use Rattle.silt_session.proofs.held.reply_to_job.Goals as goal

pub invariant_of-tasks : goal.invariant_of-tasks
invariant_of-tasks g c = c.tasks.invariant ∙ ap Some (sym (replied_same c.args.flushed.now _ _ c.reply_to_tasks.ensures))
