use Rattle.silt_server.proofs.Names.{◌≡◌, ◌≤◌, length, vec_capacity, vec_len}
use Rattle.silt_server.proofs.serve_set.SetServer.servings_of.Given as goal

-- each shard so far is among those that are served, and there is room for the others
abbrev pub invariant-loop-shard : goal.invariant-loop-shard
invariant-loop-shard g l = (vec_len l.servings ≡ l.shard-index) × (length l.shards ≤ vec_capacity l.servings)
