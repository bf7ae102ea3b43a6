use Rattle.silt_session.proofs.Common.{◌≡◌, ◌≤◌, ◌+◌, ◌++◌, List, length, All, vec_capacity, vec_len, into_iter_items, PlainReply, AnswersClient, AnswersEach, HasValueOf}
use Rattle.silt_event.specs.declared.event.Event.{Event as EventOf}
use Rattle.silt_session.proofs.client.ClientAnswerer.answer_all.Given as goal

-- the events so far have their replies, and there is room for the others
abbrev pub invariant-loop-event : goal.invariant-loop-event
invariant-loop-event g l =
    record {
      can : (goal.iterator-loop-event g).can_next l.event-iterator;
      finite : (goal.iterator-loop-event g).is_finite l.event-iterator;
      stays : l.self.value_len ≡ l.initial.self.value_len;
      values : All (HasValueOf l.initial.self.value_len) (into_iter_items l.event-iterator);
      room : vec_len l.replies + length (into_iter_items l.event-iterator) ≤ vec_capacity l.replies;
      so_far : (done : List EventOf) × (given : List PlainReply) × (done ++ into_iter_items l.event-iterator ≡ into_iter_items l.initial.event-iterator)
          × (l.replies.items ≡ l.initial.replies.items ++ given) × AnswersEach (AnswersClient g.A.Asking.gives) l.initial.self done given l.self;
    }
