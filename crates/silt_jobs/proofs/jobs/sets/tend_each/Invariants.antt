use Rattle.silt_jobs.proofs.Common.{◌≡◌, ◌≤◌, ◌+◌, ◌++◌, length, vec_len, vec_capacity, into_iter_items, tending_each}
use Rattle.silt_jobs.proofs.jobs.sets.tend_each.Given as goal

-- the stores so far, and those that are left, are all stores
abbrev pub invariant-loop-core : goal.invariant-loop-core
invariant-loop-core g l =
    record {
      can : (goal.iterator-loop-core g).can_next l.core-iterator;
      finite : (goal.iterator-loop-core g).is_finite l.core-iterator;
      room : vec_len l.stores + length (into_iter_items l.core-iterator) ≤ vec_capacity l.stores;
      count : vec_len l.stores + length (into_iter_items l.core-iterator) ≡ length (into_iter_items l.initial.core-iterator);
      all : l.stores.items ++ tending_each l.least (into_iter_items l.core-iterator) ≡ tending_each l.least (into_iter_items l.initial.core-iterator);
    }
