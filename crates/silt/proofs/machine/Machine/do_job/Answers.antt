use Rattle.silt.proofs.machine.Machine.do_job.Goals as goal

pub returns-in-Format : goal.returns-in-Format
returns-in-Format g c = rw (c.in-Format.is, c.of.ensures.1) (c.of.ensures.0, (c.format_file-ended.result.0, c.format_file-ended.ensures))

pub returns-in-Script : goal.returns-in-Script
returns-in-Script g c = rw (c.in-Script.is, c.of-in-Script.ensures.1) (c.of-in-Script.ensures.0, c.run_script.ensures)

pub returns-in-Run : goal.returns-in-Run
returns-in-Run g c = rw (c.in-Run.is, c.of-in-Run.ensures.1) (c.of-in-Run.ensures.0, (c.run_file-ended.result.0, c.run_file-ended.ensures))

pub returns-in-Tend : goal.returns-in-Tend
returns-in-Tend g c = rw (c.in-Tend.is, c.of-in-Tend.ensures.1) (c.of-in-Tend.ensures.0, (c.tend_file.result.0, c.tend_file.ensures))

pub returns-in-Check : goal.returns-in-Check
returns-in-Check g c = rw (c.in-Check.is, c.of-in-Check.ensures.1) (c.of-in-Check.ensures.0, (c.check_file.result.0, c.check_file.ensures))

pub returns-in-Dump : goal.returns-in-Dump
returns-in-Dump g c = rw (c.in-Dump.is, c.of-in-Dump.ensures.1) (c.of-in-Dump.ensures.0, (c.dump_file.result.0, c.dump_file.ensures))

pub returns-in-Set : goal.returns-in-Set
returns-in-Set g c = rw c.in-Set.is c.do_set_job.ensures

pub returns-in-Plan : goal.returns-in-Plan
returns-in-Plan g c = rw (c.in-Plan.is, c.of-in-Plan.ensures.1) (c.of-in-Plan.ensures.0, c.write_plan.ensures)

pub returns-in-PlanSet : goal.returns-in-PlanSet
returns-in-PlanSet g c = rw (c.in-PlanSet.is, c.of-in-PlanSet.ensures.1) (c.of-in-PlanSet.ensures.0, c.write_set_plan.ensures)

pub returns-in-Serve : goal.returns-in-Serve
returns-in-Serve g c = rw (c.in-Serve.is, c.of-in-Serve.ensures.1) (c.of-in-Serve.ensures.0, c.serve.ensures)

pub returns-in-Stop : goal.returns-in-Stop
returns-in-Stop g c = rw (c.in-Stop.is, c.of-in-Stop.ensures.1) (c.of-in-Stop.ensures.0, c.ask_server.ensures)

pub returns-in-Info : goal.returns-in-Info
returns-in-Info g c = rw (c.in-Info.is, c.of-in-Info.ensures.1) (c.of-in-Info.ensures.0, c.ask_server-in-Info.ensures)
