use Rattle.silt_jobs.proofs.Common.{inl, subst, HasFewRegions}
use Rattle.silt_jobs.proofs.jobs.sets.run_cores.Goals as goal

pub returns-in-Some : goal.returns-in-Some
returns-in-Some g c = inl (c.in-Some.hashes, subst (λ cores. HasFewRegions c.args.options.merge_at cores c.in-Some.hashes) c.as_slice.ensures.value c.in-Some.ensures.few, c.refuse.ensures)
