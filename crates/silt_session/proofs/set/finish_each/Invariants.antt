use Rattle.silt_session.proofs.Common.{◌≡◌, ◌≤◌, List, length, take, drop, IsSomeAnd, slice_get, vec_capacity, vec_len, AllZip, EachShard}
use Rattle.silt_event.specs.declared.event.Event.{Event as EventOf}
use Rattle.silt_session.proofs.set.finish_each.Given as goal

-- the replies of the shards so far have come
abbrev pub invariant-loop-shard : goal.invariant-loop-shard
invariant-loop-shard g l = record {
  left : l.asked.items ≡ drop l.shard-index l.initial.asked.items;
  count : vec_len l.told ≡ l.shard-index;
  room : length l.shards ≤ vec_capacity l.told;
  told : EachShard (take l.shard-index l.shards) l.told.items (λ i shard list. IsSomeAnd (slice_get l.initial.asked.items i)
      (λ one. (events : List EventOf) → g.A.AskingAhead.are_asked shard events one → AllZip (g.A.AskingAhead.gives shard) events list.items));
}
