use Rattle.silt_shards.proofs.Common.{◌≡◌, length, take, drop, List, All, PlainReply, FlushesEach, joined, value_len_of}
use Rattle.silt_shards.proofs.store_set.StoreSet.flush_each.Given as goal

-- the shards so far were flushed, and the others are as they were
abbrev pub invariant-loop-shard : goal.invariant-loop-shard
invariant-loop-shard g l = record {
  flushed : (parts : List PlainReply) × FlushesEach g.A.Answerer.answers (take l.shard-index l.initial.shard-items) parts (take l.shard-index l.shard-items) × (l.joined ≡ joined parts);
  rest : drop l.shard-index l.shard-items ≡ drop l.shard-index l.initial.shard-items;
  same_length : length l.shard-items ≡ length l.initial.shard-items;
  alike : All (λ shard. g.A.Answerer.value_len shard ≡ value_len_of g.A.Answerer.value_len l.initial.shard-items) l.shard-items;
}
