use Rattle.silt_jobs.proofs.Dumps.{dumped}
use Rattle.silt_jobs.proofs.jobs.dump.dump_on.Goals as goal

pub returns-in-Ok : goal.returns-in-Ok
returns-in-Ok g c = dumped g.D.Disk c.args.disk.now c.write_lines-written.result c.end_dump.result _ _ _ c.write_lines-written.ensures c.end_dump.ensures
