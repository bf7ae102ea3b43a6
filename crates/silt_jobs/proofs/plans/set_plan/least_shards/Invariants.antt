use Rattle.silt_jobs.proofs.Common.{◌≤◌, ◌<◌, ℕ}
use Rattle.silt_jobs.specs.SetPlans.{IsEnoughFor}
use Rattle.silt_jobs.proofs.plans.set_plan.least_shards.Given as goal

-- no number of shards so far has room
abbrev pub invariant-loop-shards : goal.invariant-loop-shards
invariant-loop-shards l = (fewer : ℕ) → 2 ≤ fewer → fewer < l.shards → ¬ IsEnoughFor l.merge_writes l.keys fewer
