use Rattle.silt_server.proofs.Names.{◌≤◌, ◌+◌, length, vec_capacity, vec_len, into_iter_items}
use Rattle.silt_server.proofs.serve_set.parts_of.Given as goal

-- there is room for the others
abbrev pub invariant-loop-crew : goal.invariant-loop-crew
invariant-loop-crew g l = record {
  can : (goal.iterator-loop-crew g).can_next l.crew-iterator;
  finite : (goal.iterator-loop-crew g).is_finite l.crew-iterator;
  room : vec_len l.parts + length (into_iter_items l.crew-iterator) ≤ vec_capacity l.parts;
}
