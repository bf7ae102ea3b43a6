use Rattle.silt_session.proofs.Common.{◌≡◌, ◌≤◌, ◌+◌, ◌++◌, List, length, vec_capacity, vec_len, into_iter_items, DrawsAll, Route}
use Rattle.silt_session.proofs.set.weave.Given as goal

-- the events so far have their replies, and there is room for the others
abbrev pub invariant-loop-route : goal.invariant-loop-route
invariant-loop-route l = record {
  can : goal.iterator-loop-route.can_next l.route-iterator;
  finite : goal.iterator-loop-route.is_finite l.route-iterator;
  room : vec_len l.replies + length (into_iter_items l.route-iterator) ≤ vec_capacity l.replies;
  drawn : (done : List Route) × (done ++ into_iter_items l.route-iterator ≡ into_iter_items l.initial.route-iterator)
      × DrawsAll l.initial.told.items done l.replies.items l.told.items (λ list. list.items);
}
