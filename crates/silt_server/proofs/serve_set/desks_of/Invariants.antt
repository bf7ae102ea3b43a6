use Rattle.silt_server.proofs.Names.{◌≡◌, ◌≤◌, ◌+◌, length, map, vec_capacity, vec_len, into_iter_items, AreInPlace}
use Rattle.silt_server.proofs.serve_set.desks_of.Given as goal

-- the desks so far are taken, each at its place, and there is room for the others
abbrev pub invariant-loop-shard : goal.invariant-loop-shard
invariant-loop-shard g l = record {
  can : (goal.iterator-loop-shard g).can_next l.shard-iterator;
  finite : (goal.iterator-loop-shard g).is_finite l.shard-iterator;
  taken : vec_len l.desks + length (into_iter_items l.shard-iterator) ≡ length (into_iter_items l.initial.shard-iterator);
  room : length (into_iter_items l.initial.shard-iterator) ≤ vec_capacity l.desks;
  place : AreInPlace (map (λ desk. desk.trace) l.desks.items);
}
