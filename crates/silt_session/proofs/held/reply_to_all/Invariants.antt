use Rattle.silt_session.proofs.Common.{◌≡◌, length, take, drop, RepliesToAll}
use Rattle.silt_session.proofs.held.reply_to_all.Given as goal

-- the tasks of the jobs so far have their replies, and the others are as they were
abbrev pub invariant-loop-job : goal.invariant-loop-job
invariant-loop-job g l = record {
  done : RepliesToAll l.flushed (take l.job-index l.initial.job-items) (take l.job-index l.job-items);
  rest : drop l.job-index l.job-items ≡ drop l.job-index l.initial.job-items;
  same_length : length l.job-items ≡ length l.initial.job-items;
}
