use Rattle.silt_session.proofs.Common.{◌≡◌, ◌≤◌, length, take, drop, IsSomeAnd, slice_get, vec_capacity, vec_len, EachShard}
use Rattle.silt_session.proofs.set.begin_each.Given as goal

-- the shards so far were asked for the replies to their events
abbrev pub invariant-loop-shard : goal.invariant-loop-shard
invariant-loop-shard g l = record {
  left : l.parts.items ≡ drop l.shard-index l.initial.parts.items;
  count : vec_len l.asked ≡ l.shard-index;
  room : length l.shards ≤ vec_capacity l.asked;
  asked : EachShard (take l.shard-index l.shards) l.asked.items (λ i shard one. IsSomeAnd (slice_get l.initial.parts.items i) (λ part. g.A.AskingAhead.are_asked shard part.items one));
}
