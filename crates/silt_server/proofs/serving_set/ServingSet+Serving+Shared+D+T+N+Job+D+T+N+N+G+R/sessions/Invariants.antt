use Rattle.silt_server.proofs.Names.{◌≡◌, ◌≤◌, length, true, vec_capacity, vec_len, All}
use Rattle.silt_server.proofs.serving_set.ServingSet+Serving+Shared+D+T+N+Job+D+T+N+N+G+R.sessions.Given as goal

-- each shard so far has its session, and there is room for the others
abbrev pub invariant-loop-shard : goal.invariant-loop-shard
invariant-loop-shard g l = record {
  count : vec_len l.sessions ≡ l.shard-index;
  room : length l.shard-items ≤ vec_capacity l.sessions;
  settle : All (λ at. at.session.settles_gets ≡ true) l.sessions.items;
  number : All (λ at. at.session.number ≡ l.number) l.sessions.items;
}
