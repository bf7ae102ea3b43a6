use Rattle.silt_jobs.proofs.Openings.{lacking}
use Rattle.silt_jobs.proofs.jobs.damage.header_on.Goals as goal

pub returns-in-Err-clause-none : goal.returns-in-Err-clause-none
returns-in-Err-clause-none g c = lacking g.D.Disk c.args.disk.now _ c.in-Err.ensures.cause c.in-Err.ensures.memory
