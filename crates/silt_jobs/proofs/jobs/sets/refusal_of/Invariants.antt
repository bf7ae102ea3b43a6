use Rattle.silt_jobs.proofs.Common.{◌≡◌, drop, first_refusal}
use Rattle.silt_jobs.proofs.jobs.sets.refusal_of.Given as goal

-- no store so far has a refusal
abbrev pub invariant-loop-store : goal.invariant-loop-store
invariant-loop-store g l = first_refusal (drop l.store-index l.stores) ≡ first_refusal l.stores
