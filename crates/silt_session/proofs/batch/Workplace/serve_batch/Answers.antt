use Rattle.silt_session.proofs.Common.{◌∙◌, ◌≤◌, length, ap, arith}
use Rattle.silt_session.proofs.Callers.{flush_caller}
use Rattle.silt_session.proofs.Batches.{all_seated, batch_served}
use Rattle.silt_session.proofs.batch.Workplace.serve_batch.Goals as goal

pub returns-clause-number : goal.returns-clause-number
returns-clause-number g c =
    ap (λ w. w.seat) (flush_caller g.D.Disk g.T.Trace _ _ _ _ _ c.flush-flushed.ensures.flushes)
    ∙ all_seated g.D.Disk g.T.Trace _ _ _ _ _ _ c.perform_all.ensures.steps.1

pub returns-clause-batch : goal.returns-clause-batch
returns-clause-batch g c =
    let over : length c.args.jobs.items ≤ c.new-batch.result.left = omega (arith, c.new-batch.ensures.left, c.args.jobs.ok.0) in
    batch_served g.D.Disk g.T.Trace _ _ _ c.new-batch.result c.perform_all.new.batch _ _ _ _ _ _ _ _ _ c.flush-flushed.result.1 (ap (λ v. v.items) c.new-batch.ensures.jobs) over
    c.perform_all.ensures.steps.1 c.perform_all.ensures.none c.flush-flushed.ensures.flushes c.flush-flushed.ensures.due
    (rw (ap (λ v. v.items) c.into_jobs-jobs.ensures) at c.reply_to_all.ensures)
