use Rattle.silt_jobs.proofs.Common.{Appends-keeps}
use Rattle.silt_jobs.proofs.people.output.write_out.Goals as goal

pub returns : goal.returns
returns g c = Appends-keeps _ _ _ _ c.in_ok-write_all.ensures.bytes c.in_ok-flush.ensures.bytes
