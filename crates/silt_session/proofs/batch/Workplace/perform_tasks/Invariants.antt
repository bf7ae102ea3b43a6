use Rattle.silt_session.proofs.Common.{◌≡◌, length, take, drop, PerformsTask, StepsThrough, writer_at, KeepsLeft}
use Rattle.silt_session.proofs.batch.Workplace.perform_tasks.Given as goal

-- the tasks so far are done in order, and the others are as they were
abbrev pub invariant-loop-task : goal.invariant-loop-task
invariant-loop-task g l = record {
  done : StepsThrough (PerformsTask g.D.Disk g.T.Trace l.self.room.now.seconds (g.H.HearsRoom.has_ended l.self.room.now.heard))
      (writer_at l.initial.seat l.initial.batch) (take l.task-index l.initial.task-items) (take l.task-index l.task-items) (writer_at l.seat l.batch);
  rest : drop l.task-index l.task-items ≡ drop l.task-index l.initial.task-items;
  same_length : length l.task-items ≡ length l.initial.task-items;
  left : KeepsLeft l.initial.batch l.batch;
}
