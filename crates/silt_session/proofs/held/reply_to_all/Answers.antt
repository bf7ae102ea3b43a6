use Rattle.silt_session.proofs.Common.{refl, sym, ◌∙◌, length-set, RepliesToAll, rest_next, RepliesToJob}
use Rattle.silt_session.proofs.Lists.{changed_all, zip_next}
use Rattle.silt_session.proofs.held.reply_to_all.Goals as goal

pub loop-job-init : goal.loop-job-init
loop-job-init g c = record { done = tt; rest = refl; same_length = refl }

pub loop-job-preserved : goal.loop-job-preserved
loop-job-preserved g c =
    let before = c.loop-job.invariant in
    record {
      done = zip_next (RepliesToJob c.args.flushed.now) c.deref_mut-job-items.result.now c.loop-job.job-items c.loop-job.job-index
          c.job-item.result _ c.loop-job-test.true before.same_length before.rest before.done (c.reply_to_job.ensures.replies, c.reply_to_job.ensures.ticket, refl);
      rest = rest_next c.deref_mut-job-items.result.now c.loop-job.job-items c.loop-job.job-index _ before.rest;
      same_length = length-set c.loop-job.job-items c.loop-job.job-index _ ∙ before.same_length;
    }

pub returns : goal.returns
returns g c =
    let done = c.loop-job.invariant in
    changed_all (RepliesToAll c.args.flushed.now)
    c.deref_mut-job-items.result.now c.loop-job.job-items c.args.jobs.now.items c.loop-job.job-index c.args.jobs.now.len
    c.loop-job-test.false done.same_length c.deref_mut-job-items.ensures.value (sym c.deref_mut-job-items.ensures.len) done.done
