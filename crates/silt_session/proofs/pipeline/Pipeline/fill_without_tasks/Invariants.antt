use Rattle.silt_session.proofs.Common.{◌≡◌, ◌≤◌, ◌+◌, ◌++◌, map, vec_capacity, vec_len, deque_capacity, deque_len, reply_without_tasks}
use Rattle.silt_session.proofs.pipeline.Pipeline.fill_without_tasks.Given as goal

-- the places so far have their replies
abbrev pub invariant-loop-place : goal.invariant-loop-place
invariant-loop-place g l = record {
  same : l.self ≡ record l.initial.self { replies = l.self.replies; places = l.self.places };
  room : vec_len l.self.replies + deque_len l.self.places ≤ vec_capacity l.self.replies;
  replies_room : vec_capacity l.self.replies ≡ vec_capacity l.initial.self.replies;
  places_room : deque_capacity l.self.places ≡ deque_capacity l.initial.self.places;
  so_far : l.self.replies.items ++ map reply_without_tasks l.self.places.items ≡ l.initial.self.replies.items ++ map reply_without_tasks l.initial.self.places.items;
}

abbrev pub decreases-loop-place : goal.decreases-loop-place
decreases-loop-place g l = deque_len l.self.places
