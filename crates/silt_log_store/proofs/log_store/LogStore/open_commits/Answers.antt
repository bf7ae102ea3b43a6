use Rattle.silt_log_store.proofs.Common.{common_steps, arith, err_from_is_err_and}
use Rattle.silt_log_store.proofs.Exits.{opens_some}
use Rattle.silt_log_store.proofs.log_store.LogStore.open_commits.Goals as goal

pub returns-in_err-open_commits-clause-err : goal.returns-in_err-open_commits-clause-err
returns-in_err-open_commits-clause-err g c = grind (arith, common_steps, c.self.view_is, err_from_is_err_and, opens_some)
