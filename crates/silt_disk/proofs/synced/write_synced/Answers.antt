use Rattle.std.proofs.Common.{arith}
use Rattle.silt_disk.proofs.Wrote.{sync_wrote, write_wrote, wrote_err, wrote_ok, wrote_then}
use Rattle.silt_disk.proofs.synced.write_synced.Goals as goal

pub returns-in_err-write-clause-wrote : goal.returns-in_err-write-clause-wrote
returns-in_err-write-clause-wrote g c =
    let first = write_wrote c.write.result c.write.ensures.size c.write.ensures.made c.write.ensures.torn c.write.ensures.failures in
    wrote_err c.in_err-write.was c.from_residual.ensures.1 (omega arith) (omega arith) first

pub returns-in_err-sync-clause-wrote : goal.returns-in_err-sync-clause-wrote
returns-in_err-sync-clause-wrote g c =
    let first = write_wrote c.write.result c.write.ensures.size c.write.ensures.made c.write.ensures.torn c.write.ensures.failures in
    let then = sync_wrote _ _ c.sync.result c.sync.ensures.size c.sync.ensures.made c.sync.ensures.settled c.sync.ensures.unchanged c.sync.ensures.failures in
    wrote_err c.in_err-sync.was c.from_residual-in_err-sync.ensures.1 (omega arith) (omega arith) (wrote_then c.in_ok-write.was first then)

pub returns-clause-wrote : goal.returns-clause-wrote
returns-clause-wrote g c =
    let first = write_wrote c.write.result c.write.ensures.size c.write.ensures.made c.write.ensures.torn c.write.ensures.failures in
    let then = sync_wrote _ _ c.sync.result c.sync.ensures.size c.sync.ensures.made c.sync.ensures.settled c.sync.ensures.unchanged c.sync.ensures.failures in
    wrote_ok c.in_ok-sync.was (wrote_then c.in_ok-write.was first then)
