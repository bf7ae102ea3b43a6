use Rattle.silt_session.proofs.Common.{◌≡◌, ◌<◌, ◌≤◌, ◌+◌, ◌++◌, ℕ, List, length, map, vec_capacity, vec_len, into_iter_items, HasPart, route_of, routed}
use Rattle.silt_event.specs.declared.event.Event.{Event as EventOf}
use Rattle.silt_session.proofs.set.deal.Given as goal

-- the events so far are dealt to their shards, and there is room for the routes of the others
abbrev pub invariant-loop-event : goal.invariant-loop-event
invariant-loop-event l = record {
  can : goal.iterator-loop-event.can_next l.event-iterator;
  finite : goal.iterator-loop-event.is_finite l.event-iterator;
  room : vec_len l.routes + length (into_iter_items l.event-iterator) ≤ vec_capacity l.routes;
  count : vec_len l.parts ≡ l.count;
  dealt : (done : List EventOf) × (done ++ into_iter_items l.event-iterator ≡ into_iter_items l.initial.event-iterator)
      × (l.routes.items ≡ map (route_of l.count) done)
      × ((i : ℕ) → i < l.count → HasPart l.parts.items (λ part. part.items) i (routed l.count i done));
}
