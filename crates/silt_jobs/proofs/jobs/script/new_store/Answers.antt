use Rattle.silt_jobs.proofs.Common.{◌∙◌}
use Rattle.silt_jobs.proofs.NewStores.{fresh_size, format_cause}
use Rattle.silt_jobs.proofs.jobs.script.new_store.Goals as goal

pub returns-in-Err-clause-cause : goal.returns-in-Err-clause-cause
returns-in-Err-clause-cause c =
    let fits = fresh_size c.size.result c.in-Ok.disk c.in-Ok.ensures ∙ c.size.ensures.value in
    rw c.from.ensures (format_cause c.args.geometry c.in-Ok.disk c.in-Err.fault.disk c.in-Err.fault.error fits c.in-Err.ensures.same c.in-Err.ensures.cause)
