use Rattle.silt_session.proofs.Common.{◌≡◌, ◌+◌, ◌++◌, replicate, vec_capacity, vec_len, reply_without}
use Rattle.silt_session.proofs.unanswered.Unanswered.reply_to.Given as goal

-- so many replies are appended
abbrev pub invariant-loop : goal.invariant-loop
invariant-loop l = record {
  so_far : l.replies.items ≡ l.initial.replies.items ++ replicate l.counter (reply_without l.self);
  len : vec_len l.replies ≡ vec_len l.initial.replies + l.counter;
  room : vec_capacity l.replies ≡ vec_capacity l.initial.replies;
}
