use Rattle.silt_shards.proofs.Common.{drop, Option, Facts, AddsFacts, Informs}
use Rattle.silt_shards.proofs.store_set.StoreSet.sum_facts.Given as goal

-- what the other shards make of the sum so far is what all make of the first sum
abbrev pub invariant-loop-shard : goal.invariant-loop-shard
invariant-loop-shard g l =
    (facts : Option Facts) → AddsFacts (Informs g.A.Answerer.administers) l.sum (drop l.shard-index l.shard-items) facts
    → AddsFacts (Informs g.A.Answerer.administers) l.initial.sum l.shard-items facts
