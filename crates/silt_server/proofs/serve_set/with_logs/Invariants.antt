use Rattle.silt_server.proofs.Names.{◌≡◌, ◌≤◌, ◌+◌, ◌++◌, length, map, vec_capacity, vec_len, into_iter_items, AreNewLogs}
use Rattle.silt_server.proofs.serve_set.with_logs.Given as goal

-- each store so far has its log, and there is room for the others
abbrev pub invariant-loop-core : goal.invariant-loop-core
invariant-loop-core g l = record {
  can : (goal.iterator-loop-core g).can_next l.core-iterator;
  finite : (goal.iterator-loop-core g).is_finite l.core-iterator;
  made : vec_len l.stores + length (into_iter_items l.core-iterator) ≡ length (into_iter_items l.initial.core-iterator);
  room : vec_len l.stores + length (into_iter_items l.core-iterator) ≤ vec_capacity l.stores;
  cores : map (λ store. store.core) l.stores.items ++ into_iter_items l.core-iterator ≡ into_iter_items l.initial.core-iterator;
  logs : AreNewLogs (map (λ store. store.log) l.stores.items);
}
