use Rattle.silt_session.proofs.Common.{◌≡◌, ◌≤◌, ◌+◌, ◌++◌, length, vec_capacity, vec_len, into_iter_items}
use Rattle.silt_session.proofs.client.append.Given as goal

-- the items so far are appended, and there is room for the others
abbrev pub invariant-loop-reply : goal.invariant-loop-reply
invariant-loop-reply l = record {
  can : (goal.iterator-loop-reply).can_next l.reply-iterator;
  finite : (goal.iterator-loop-reply).is_finite l.reply-iterator;
  room : vec_len l.replies + length (into_iter_items l.reply-iterator) ≤ vec_capacity l.replies;
  so_far : l.replies.items ++ into_iter_items l.reply-iterator ≡ l.initial.replies.items ++ into_iter_items l.initial.reply-iterator;
}
