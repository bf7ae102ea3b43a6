use Rattle.silt_session.proofs.Common.{◌≡◌, ◌≤◌, ◌+◌, ◌++◌, List, vec_capacity, vec_len, deque_capacity, deque_len, PlainReply, PassesOn, Fills, Place}
use Rattle.silt_session.proofs.pipeline.Pipeline.fill_places.Given as goal

-- the places so far have their replies, by the first tasks
abbrev pub invariant-loop-place : goal.invariant-loop-place
invariant-loop-place g l = record {
  same : l.self ≡ record l.initial.self { replies = l.self.replies; places = l.self.places; told = l.self.told };
  told : PassesOn l.initial.self.told l.self.told;
  room : vec_len l.self.replies + deque_len l.self.places ≤ vec_capacity l.self.replies;
  replies_room : vec_capacity l.self.replies ≡ vec_capacity l.initial.self.replies;
  places_room : deque_capacity l.self.places ≡ deque_capacity l.initial.self.places;
  so_far : (done : List Place) × (given : List PlainReply) × (done ++ l.self.places.items ≡ l.initial.self.places.items)
      × (l.self.replies.items ≡ l.initial.self.replies.items ++ given)
      × Fills g.D.Disk g.T.Trace l.initial.self.told l.flushed l.initial.self.told.next l.initial.tasks.items done given l.self.told.next l.tasks.items;
}

abbrev pub decreases-loop-place : goal.decreases-loop-place
decreases-loop-place g l = deque_len l.self.places
