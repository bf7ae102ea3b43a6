use Rattle.silt_session.proofs.Common.{rules, ap, get_or, refl, sym, ◌∙◌, Some, length-set, PerformsTask, StepsThrough, writer_at, rest_next, serving}
use mir.Syntax.{of_param}
use Rattle.silt_session.proofs.Batches.{keeps_none, keeps_both, task_done, task_performed, task_placed}
use Rattle.silt_session.proofs.Lists.{changed_all, steps_next}
use Rattle.silt_session.proofs.batch.Workplace.perform_tasks.Goals as goal

pub loop-task-init : goal.loop-task-init
loop-task-init g c = record { done = refl; rest = refl; same_length = refl; left = keeps_none c.args.batch.now c.requires }

pub loop-task-preserved : goal.loop-task-preserved
loop-task-preserved g c =
    let before = c.loop-task.invariant in
    record {
      done = steps_next (PerformsTask g.D.Disk g.T.Trace c.args.self.now.room.now.seconds (g.H.HearsRoom.has_ended c.args.self.now.room.now.heard))
          _ _ _ c.deref_mut-task-items.result.now c.loop-task.task-items c.loop-task.task-index c.task-item.result c.finish.new.self
          c.loop-task-test.true before.same_length before.rest before.done
          (task_performed g.D.Disk g.T.Trace _ _ (writer_at c.loop-task.seat c.loop-task.batch) _ _ _
          (get_or c.loop-task.task-items c.loop-task.task-index c.task-item.result) c.finish.new.self c.perform_request-answer.result
          (ap (λ s. writer_at s c.loop-task.batch) c.serve.ensures ∙ ap (λ n. serving n (writer_at c.loop-task.seat c.loop-task.batch)) c.session.ensures)
          c.request.ensures c.finish.ensures c.perform_request-answer.ensures.does);
      rest = rest_next c.deref_mut-task-items.result.now c.loop-task.task-items c.loop-task.task-index _ before.rest;
      same_length = length-set c.loop-task.task-items c.loop-task.task-index _ ∙ before.same_length;
      left = keeps_both _ _ _ before.left c.perform_request-answer.ensures.left;
    }

pub finish-requires : goal.finish-requires
finish-requires g c =
    let does = c.perform_request-answer.ensures.does in
    let done = task_done g.D.Disk g.T.Trace _ _ _ _ _ _ c.perform_request-answer.result c.request.ensures does in
    let placed = task_placed g.D.Disk g.T.Trace _ _ _ _ _ _ _ c.perform_request-answer.result c.call_place-call.result
    (ap (λ s. s.caller.session) c.serve.ensures ∙ ap Some c.session.ensures) c.request.ensures c.call_place-call.ensures does in (
      search rules,
      (record { owned = c.type_bounds.send-D-Fault.owned; leaving = λ k. c.type_bounds.send-D-Fault.leaving (λ s. k (of_param 2)) }, (search rules, (done, placed))),
    )

pub returns-clause-steps : goal.returns-clause-steps
returns-clause-steps g c =
    let done = c.loop-task.invariant in
    changed_all (λ xs ys. StepsThrough (PerformsTask g.D.Disk g.T.Trace c.args.self.now.room.now.seconds (g.H.HearsRoom.has_ended c.args.self.now.room.now.heard))
    (writer_at c.args.seat.now c.args.batch.now) xs ys (writer_at c.loop-task.seat c.loop-task.batch))
    c.deref_mut-task-items.result.now c.loop-task.task-items c.args.tasks.now.items c.loop-task.task-index c.args.tasks.now.len
    c.loop-task-test.false done.same_length c.deref_mut-task-items.ensures.value (sym c.deref_mut-task-items.ensures.len) done.done
