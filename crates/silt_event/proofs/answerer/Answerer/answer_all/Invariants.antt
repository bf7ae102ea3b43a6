use Rattle.std.proofs.Common.{◌≡◌, ◌≤◌, ◌+◌, ◌++◌, All, List, length, vec_capacity, vec_len}
use Rattle.std.specs.Vec.Iter.{into_iter_items}
use Rattle.silt_event.specs.declared.event.Event.{Event as EventOf}
use Rattle.silt_event.specs.Events.{AnswersEach, HasValueOf, PlainReply}
use Rattle.silt_event.proofs.answerer.Answerer.answer_all.Given as goal

abbrev pub invariant-loop-event : goal.invariant-loop-event
invariant-loop-event g l =
    record {
      can : (goal.iterator-loop-event g).can_next l.event-iterator;
      finite : (goal.iterator-loop-event g).is_finite l.event-iterator;
      stays : g.Self.Answerer.value_len l.self ≡ g.Self.Answerer.value_len l.initial.self;
      values : All (HasValueOf (g.Self.Answerer.value_len l.initial.self)) (into_iter_items l.event-iterator);
      room : vec_len l.replies + length (into_iter_items l.event-iterator) ≤ vec_capacity l.replies;
      told : (done : List EventOf) × (given : List PlainReply) × (done ++ into_iter_items l.event-iterator ≡ into_iter_items l.initial.event-iterator)
          × (l.replies.items ≡ l.initial.replies.items ++ given) × AnswersEach g.Self.Answerer.answers l.initial.self done given l.self;
    }
