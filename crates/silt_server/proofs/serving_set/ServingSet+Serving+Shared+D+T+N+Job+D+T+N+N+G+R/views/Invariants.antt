use Rattle.silt_server.proofs.Names.{◌≡◌, ◌≤◌, length, vec_capacity, vec_len}
use Rattle.silt_server.proofs.serving_set.ServingSet+Serving+Shared+D+T+N+Job+D+T+N+N+G+R.views.Given as goal

-- each shard so far has its view, and there is room for the others
abbrev pub invariant-loop-shard : goal.invariant-loop-shard
invariant-loop-shard g l = record {
  count : vec_len l.views ≡ l.shard-index;
  room : length l.shard-items ≤ vec_capacity l.views;
}
