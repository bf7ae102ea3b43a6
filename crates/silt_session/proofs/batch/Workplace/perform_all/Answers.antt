use Rattle.silt_session.proofs.Common.{refl, ◌∙◌, arith, []}
use Rattle.silt_session.proofs.Batches.{jobs_more}
use Rattle.silt_session.proofs.batch.Workplace.perform_all.Goals as goal

pub loop-job-init : goal.loop-job-init
loop-job-init g c = record { within = c.requires.within; room = c.requires.room; so_far = ([], [], refl, refl) }

pub loop-job-preserved : goal.loop-job-preserved
loop-job-preserved g c =
    let before = c.loop-job.invariant in
    let (old, done, is, so_far) = before.so_far in
    let next = c.in-Some.ensures in
    record {
      within = c.hold.ensures.within;
      room = omega (arith, before.room, next.count.1, next.room, c.perform_job.ensures.left.fewer, c.perform_job.ensures.left.room, c.hold.ensures.count, c.hold.ensures.room);
      so_far = jobs_more g.D.Disk g.T.Trace _ _ _ _ _ c.loop-job.batch c.next.new.self c.perform_job.new.batch c.hold.new.self _ old done
          c.in-Some.job (record { tasks = c.perform_job.new.tasks; replies = c.in-Some.job.replies }) is so_far next.jobs next.done
          c.perform_job.ensures.steps c.perform_job.ensures.ticket refl (c.hold.ensures.left.0 ∙ c.perform_job.ensures.left.left) c.hold.ensures.done;
    }
