use Rattle.silt_merge.proofs.Common.{◌≡◌, ◌+◌, take, min, sum_by}
use Rattle.silt_merge.proofs.merge.most_entries.Given as goal

-- one for each entry, and for each put of the stores so far
abbrev pub invariant-loop-store : goal.invariant-loop-store
invariant-loop-store l = l.most ≡ min (l.sorted.count + sum_by (λ store. store.puts) (take l.store-index l.stores)) 4294967295
