use Rattle.silt_session.proofs.Common.{drop, IsSomeAnd, Option, Facts}
use Rattle.silt_shards.specs.SetFacts.{AddsFacts}
use Rattle.silt_session.proofs.set.sum_facts.Given as goal

-- what the other shards make of the sum so far is what all make of the first sum
abbrev pub invariant-loop-shard : goal.invariant-loop-shard
invariant-loop-shard g l =
    (facts : Option Facts) → AddsFacts (λ shard given. IsSomeAnd given (g.A.AskingAhead.informs shard)) l.sum (drop l.shard-index l.shards) facts
    → AddsFacts (λ shard given. IsSomeAnd given (g.A.AskingAhead.informs shard)) l.initial.sum l.shards facts
