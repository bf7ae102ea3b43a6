-- The plan of a set of shards.
use Rattle.std.specs.Prelude.{◌⊎◌, ◌+◌, ◌-◌, ◌*◌, ◌/◌, ◌%◌, ◌^◌, ℕ, min, IsTrue, List, Option, Some, None, option_map}
use Rattle.silt_jobs.specs.Common.{device_size, IsShardCount, PlanRequest, Ended, NoJob, NoPlan, PlanCost, Remedy, SeveralStores, Memory}
use Rattle.silt_jobs.specs.Ended.{Refuses}
use Rattle.silt_jobs.specs.MergeWrites.{is_plannable}
use Rattle.silt_jobs.specs.PlanCosts.{EndsPlan, cost_of}
use Rattle.silt_jobs.specs.Plans.{first_planned, memory_of, shape_planned}

-- the keys of each shard if all have as many, rounded up
abbrev pub even_share : ℕ → ℕ → ℕ
even_share shards keys = keys / shards + min 1 (keys % shards)

-- The keys that a shard is planned for: its even share, and a sixteenth and 64 more, since the digests of keys are spread as dice are.
abbrev pub share_of : ℕ → ℕ → ℕ
share_of shards keys = even_share shards keys + even_share shards keys / 16 + 64

-- what one of so many shards is planned for: its share of the keys and of the memory, with the same limit for what merging writes
abbrev pub shard_request : ℕ → PlanRequest → PlanRequest
shard_request shards r = record {
  keys = share_of shards r.keys;
  value_len = r.value_len;
  memory = option_map (λ bytes. bytes / shards) r.memory;
  merge_writes = r.merge_writes;
}

-- so many shards are enough for the keys: there is a plan for the share of each with which merging writes no more than the limit
abbrev pub IsEnoughFor : Option ℕ → ℕ → ℕ → Type 0
IsEnoughFor merge_writes keys shards = IsTrue (is_plannable merge_writes (share_of shards keys))

-- so many times a number, but no more than 64 bits hold
abbrev pub times : ℕ → ℕ → ℕ
times shards number = min (shards * number) (2 ^ 64 - 1)

-- what helps a set, if this helps each shard
abbrev pub set_remedy : ℕ → Remedy → Remedy
set_remedy shards SeveralStores = SeveralStores
set_remedy shards (Memory bytes most) = Memory (times shards bytes) most

-- the cost of a set of shards of which each costs this
abbrev pub set_cost : ℕ → PlanCost → PlanCost
set_cost shards cost = record { keys = cost.keys; rows = cost.rows; at_rest = times shards cost.at_rest; remedy = option_map (set_remedy shards) cost.remedy }

-- the plan of shards of this many buckets was written, with the cost of the set, or the line says that there is none
abbrev pub PlansShards : {E F : Type 0} → ℕ → PlanRequest → Option ℕ → Ended E F → Option (List ℕ) → Option (List ℕ) → Type 0
PlansShards shards r (Some buckets) ended before after =
    let one = shard_request shards r in
    EndsPlan (shape_planned one buckets) (times shards (device_size (shape_planned one buckets))) (times shards (memory_of one.keys buckets))
    (set_cost shards (cost_of one buckets)) ended before after
PlansShards shards r None ended before after = Refuses (NoPlan (Some shards) r) ended before after

-- a set of so many shards was planned, or the number is that of none
abbrev pub PlansSet : {E F : Type 0} → ℕ → PlanRequest → Ended E F → Option (List ℕ) → Option (List ℕ) → Type 0
PlansSet shards r ended before after =
    ((¬ IsShardCount shards) × Refuses NoJob ended before after)
    ⊎ (IsShardCount shards × PlansShards shards r (first_planned (shard_request shards r)) ended before after)
