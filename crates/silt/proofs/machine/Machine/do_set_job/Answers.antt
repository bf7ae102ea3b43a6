use Rattle.silt.proofs.machine.Machine.do_set_job.Goals as goal

pub returns-in-Format : goal.returns-in-Format
returns-in-Format g c = rw (c.in-Format.is, c.of.ensures.1) (c.of.ensures.0, c.format_named-ended.ensures)

pub returns-in-Run : goal.returns-in-Run
returns-in-Run g c = rw (c.in-Run.is, c.of-in-Run.ensures.1) (c.of-in-Run.ensures.0, c.run_set-ended.ensures)

pub returns-in-Dump : goal.returns-in-Dump
returns-in-Dump g c = rw (c.in-Dump.is, c.of-in-Dump.ensures.1) (c.of-in-Dump.ensures.0, c.dump_set.ensures)
