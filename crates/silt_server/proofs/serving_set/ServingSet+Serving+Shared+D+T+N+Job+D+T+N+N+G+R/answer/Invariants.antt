use Rattle.silt_server.proofs.Names.{◌≡◌, ◌≤◌, length, vec_capacity, vec_len}
use Rattle.silt_server.proofs.serving_set.ServingSet+Serving+Shared+D+T+N+Job+D+T+N+N+G+R.answer.Given as goal

-- each session so far can be asked, and there is room for the others
abbrev pub invariant-loop-at : goal.invariant-loop-at
invariant-loop-at g l = (vec_len l.shards ≡ l.at-index) × (length l.sessions ≤ vec_capacity l.shards)
