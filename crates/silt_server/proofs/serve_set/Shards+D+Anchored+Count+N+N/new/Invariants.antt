use Rattle.silt_server.proofs.Names.{◌≡◌, ◌≤◌, ◌+◌, length, All, vec_capacity, vec_len, into_iter_items, IsNamedFor}
use Rattle.silt_server.proofs.serve_set.Shards+D+Anchored+Count+N+N.new.Given as goal

-- each store so far has its shard, and there is room for the others, which have their names
abbrev pub invariant-loop-store : goal.invariant-loop-store
invariant-loop-store g l = record {
  can : (goal.iterator-loop-store g).can_next l.store-iterator;
  finite : (goal.iterator-loop-store g).is_finite l.store-iterator;
  named : All (λ store. IsNamedFor g.D.Disk g.N.Anchor.first g.N.Anchor.calls store.core store.log) (into_iter_items l.store-iterator);
  made : vec_len l.shards + length (into_iter_items l.store-iterator) ≡ length (into_iter_items l.initial.store-iterator);
  crews : vec_len l.crews ≡ vec_len l.shards;
  shard_room : length (into_iter_items l.initial.store-iterator) ≤ vec_capacity l.shards;
  crew_room : length (into_iter_items l.initial.store-iterator) ≤ vec_capacity l.crews;
}
