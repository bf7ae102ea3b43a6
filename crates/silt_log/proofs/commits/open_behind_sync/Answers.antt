use Rattle.silt_log.proofs.Common.{rules, arith, wrote_err, wrote_ok, wrote_then, sync_wrote}
use Rattle.silt_log.proofs.Barriers.{begun}
use Rattle.silt_log.proofs.commits.open_behind_sync.Goals as goal

pub returns-in_err-sync-clause-wrote : goal.returns-in_err-sync-clause-wrote
returns-in_err-sync-clause-wrote g c =
    let synced = sync_wrote _ _ c.sync.result c.sync.ensures.size c.sync.ensures.made c.sync.ensures.settled c.sync.ensures.unchanged c.sync.ensures.failures in
    wrote_err c.in_err-sync.was c.from_residual.ensures.1 (omega arith) (omega arith) synced

pub returns-in_err-write_commits-clause-wrote : goal.returns-in_err-write_commits-clause-wrote
returns-in_err-write_commits-clause-wrote g c =
    let synced = sync_wrote _ _ c.sync.result c.sync.ensures.size c.sync.ensures.made c.sync.ensures.settled c.sync.ensures.unchanged c.sync.ensures.failures in
    wrote_err c.in_err-write_commits.was c.from_residual-in_err-write_commits.ensures.1 (omega arith) (omega arith) (wrote_then c.in_ok-sync.was synced c.write_commits.ensures.wrote)

pub returns-clause-wrote : goal.returns-clause-wrote
returns-clause-wrote g c =
    let synced = sync_wrote _ _ c.sync.result c.sync.ensures.size c.sync.ensures.made c.sync.ensures.settled c.sync.ensures.unchanged c.sync.ensures.failures in
    wrote_ok c.in_ok-write_commits.was (wrote_then c.in_ok-sync.was synced c.write_commits.ensures.wrote)

pub returns-in_err-write_commits-clause-begun : goal.returns-in_err-write_commits-clause-begun
returns-in_err-write_commits-clause-begun g c = search (rules, begun)

pub returns-clause-begun : goal.returns-clause-begun
returns-clause-begun g c = begun _ _ _ _ _ c.in_ok-sync.ensures.settled c.write_commits.ensures.wrote.changes
