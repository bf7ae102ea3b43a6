use Rattle.silt_session.proofs.Common.{◌≡◌, length, take, drop, AllZip, RepliesTo}
use Rattle.silt_session.proofs.held.reply_to_tasks.Given as goal

-- the tasks so far have their replies, and the others are as they were
abbrev pub invariant-loop-task : goal.invariant-loop-task
invariant-loop-task g l = record {
  done : AllZip (RepliesTo l.flushed) (take l.task-index l.initial.task-items) (take l.task-index l.task-items);
  rest : drop l.task-index l.task-items ≡ drop l.task-index l.initial.task-items;
  same_length : length l.task-items ≡ length l.initial.task-items;
}
