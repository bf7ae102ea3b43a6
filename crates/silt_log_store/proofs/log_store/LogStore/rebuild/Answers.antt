use Rattle.silt_log_store.proofs.Common.{common_steps, ap, ◌∙◌, arith, rules, err_from_is_err_and, LogState}
use Rattle.silt_log_store.proofs.Growth.{rebuilt_is, rebuilt_frozen, rebuild_refused}
use Rattle.silt_log_store.proofs.log_store.LogStore.rebuild.Goals as goal

pub returns-in_err-table-clause-err : goal.returns-in_err-table-clause-err
returns-in_err-table-clause-err g c =
    let refused = err_from_is_err_and c.from_residual.result c.from_residual.ensures.1 in
    let shape = c.scan_commits.ensures.region.0 ∙ ap (λ (l : LogState). l.shape) c.in-Ok.ensures in
    let region = c.scan_commits.ensures.region.1 ∙ ap (λ (l : LogState). l.region) c.in-Ok.ensures in
    rw (refused.1, refused.2) (rebuild_refused _ _ _ _ _ c.in_err-table.field-0.0 shape region c.in_default.ensures.ok c.in_err-table.ensures.err)

pub returns-clause-rebuilt : goal.returns-clause-rebuilt
returns-clause-rebuilt g c = grind (arith, common_steps, rebuilt_is, g.D.Disk.content)

pub returns-clause-frozen : goal.returns-clause-frozen
returns-clause-frozen g c = search (rules, arith, rebuilt_frozen, g.D.Disk.content)
