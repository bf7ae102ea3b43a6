use Rattle.silt_session.proofs.Common.{refl, sym, ◌∙◌, AllZip, length-set, RepliesTo, rest_next}
use Rattle.silt_session.proofs.Lists.{changed_all, zip_next}
use Rattle.silt_session.proofs.held.reply_to_tasks.Goals as goal

pub loop-task-init : goal.loop-task-init
loop-task-init g c = record { done = tt; rest = refl; same_length = refl }

pub loop-task-preserved : goal.loop-task-preserved
loop-task-preserved g c =
    let before = c.loop-task.invariant in
    record {
      done = zip_next (RepliesTo c.args.flushed.now) c.deref_mut-task-items.result.now c.loop-task.task-items c.loop-task.task-index
          c.task-item.result _ c.loop-task-test.true before.same_length before.rest before.done c.reply.ensures;
      rest = rest_next c.deref_mut-task-items.result.now c.loop-task.task-items c.loop-task.task-index _ before.rest;
      same_length = length-set c.loop-task.task-items c.loop-task.task-index _ ∙ before.same_length;
    }

pub returns : goal.returns
returns g c =
    let done = c.loop-task.invariant in
    changed_all (AllZip (RepliesTo c.args.flushed.now))
    c.deref_mut-task-items.result.now c.loop-task.task-items c.args.tasks.now.items c.loop-task.task-index c.args.tasks.now.len
    c.loop-task-test.false done.same_length c.deref_mut-task-items.ensures.value (sym c.deref_mut-task-items.ensures.len) done.done
