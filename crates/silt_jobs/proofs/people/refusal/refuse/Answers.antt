use Rattle.silt_jobs.proofs.Common.{refl}
use Rattle.silt_jobs.proofs.Refusals.{reports_no_memory}
use Rattle.silt_jobs.proofs.people.refusal.refuse.Goals as goal

pub returns-in_ok-write_all-in-NoMemory : goal.returns-in_ok-write_all-in-NoMemory
returns-in_ok-write_all-in-NoMemory g c = (refl, reports_no_memory c.args.refusal.now _ _ c.in-NoMemory.is c.in_ok-write_all-in-NoMemory.ensures.bytes)
