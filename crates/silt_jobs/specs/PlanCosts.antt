-- What a planned store costs in merging, and in memory at rest.
use Rattle.std.specs.Prelude.{◌≡◌, ℕ, ◌+◌, ◌*◌, ◌/◌, List, max, Option, Some, None, is_some, if◌then◌else◌}
use Rattle.silt_jobs.specs.Common.{Shape, device_size, PlanRequest, Ended, Cost, NoPlan, PlanCost, Remedy, SeveralStores, Memory}
use Rattle.silt_jobs.specs.Ended.{IsDone, Refuses}
use Rattle.silt_jobs.specs.MergeWrites.{first_needed}
use Rattle.silt_jobs.specs.Plans.{memory_of, plan_text, rows_between_merges, shape_planned, writes_more}

-- the entries for each row in tenths, the nearest ones; half a tenth counts as one
abbrev pub tenths_written : ℕ → ℕ → ℕ
tenths_written keys rows = (20 * keys / max rows 1 + 1) / 2

-- The bytes of memory when all is merged and one log is in use: the index of the sorted store takes 0.8 bytes a key and at least 18,504, the
-- log's table 24 bytes a bucket, and its commit bytes one a row.
abbrev pub at_rest : ℕ → ℕ → ℕ
at_rest keys buckets = max ((4 * keys + 4) / 5) 18504 + 24 * buckets + 7 * (buckets / 2)

-- the bytes of memory of a plan with which merging writes at most this many entries for each row
abbrev pub memory_for : ℕ → ℕ → ℕ
memory_for most keys = memory_of keys (first_needed most keys)

-- The memory with which merging writes at most ten entries for each row, or at most twenty if the most buckets write more than ten.
abbrev pub more_memory : ℕ → Remedy
more_memory keys = if writes_more 10 keys 32768 then Memory (memory_for 20 keys) 20 else Memory (memory_for 10 keys) 10

-- What helps if merging writes more than twenty entries for each row: several stores, if that is so with the most buckets, or more memory.
abbrev pub remedy_of : ℕ → ℕ → Option Remedy
remedy_of keys buckets =
    if writes_more 20 keys buckets then Some (if writes_more 20 keys 32768 then SeveralStores else more_memory keys) else None

-- the same, unless the request limits what merging writes
abbrev pub remedy_for : PlanRequest → ℕ → Option Remedy
remedy_for r buckets = if is_some r.merge_writes then None else remedy_of r.keys buckets

-- the cost of a store of this many buckets that is planned for this request
abbrev pub cost_of : PlanRequest → ℕ → PlanCost
cost_of r buckets = record { keys = r.keys; rows = rows_between_merges buckets; at_rest = at_rest r.keys buckets; remedy = remedy_for r buckets }

-- the numbers of a geometry and so many bytes on disk and in memory were written, and this is the cost
abbrev pub EndsPlan : {E F : Type 0} → Shape → ℕ → ℕ → PlanCost → Ended E F → Option (List ℕ) → Option (List ℕ) → Type 0
EndsPlan s disk memory cost ended before after = (ended.found ≡ Some (Cost cost)) × IsDone (plan_text s disk memory) ended before after

-- the plan of this many buckets was written, with its cost, or the line says that there is none
abbrev pub Plans : {E F : Type 0} → PlanRequest → Option ℕ → Ended E F → Option (List ℕ) → Option (List ℕ) → Type 0
Plans r (Some buckets) ended before after =
    EndsPlan (shape_planned r buckets) (device_size (shape_planned r buckets)) (memory_of r.keys buckets) (cost_of r buckets) ended before after
Plans r None ended before after = Refuses (NoPlan None r) ended before after
