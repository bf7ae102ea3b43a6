use Rattle.silt_log.proofs.Common.{arith, wrote_err, wrote_ok, wrote_then, write_wrote, wrote_wider}
use Rattle.silt_log.proofs.Splices.{both_written}
use Rattle.silt_log.proofs.commits.write_row.Goals as goal

pub returns-in_err-write-clause-wrote : goal.returns-in_err-write-clause-wrote
returns-in_err-write-clause-wrote g c =
    let head = write_wrote c.write.result c.write.ensures.size c.write.ensures.made c.write.ensures.torn c.write.ensures.failures in
    wrote_err c.in_err-write.was c.from_residual.ensures.1 (omega arith) (omega arith) (wrote_wider _ _ (omega arith) (omega arith) head)

pub returns-in_err-write-2-clause-wrote : goal.returns-in_err-write-2-clause-wrote
returns-in_err-write-2-clause-wrote g c =
    let head = write_wrote c.write.result c.write.ensures.size c.write.ensures.made c.write.ensures.torn c.write.ensures.failures in
    let value = write_wrote c.write-2.result c.write-2.ensures.size c.write-2.ensures.made c.write-2.ensures.torn c.write-2.ensures.failures in
    wrote_err c.in_err-write-2.was c.from_residual-in_err-write-2.ensures.1 (omega arith) (omega arith)
    (wrote_then c.in_ok-write.was (wrote_wider _ _ (omega arith) (omega arith) head) (wrote_wider _ _ (omega arith) (omega arith) value))

pub returns-clause-wrote : goal.returns-clause-wrote
returns-clause-wrote g c =
    let head = write_wrote c.write.result c.write.ensures.size c.write.ensures.made c.write.ensures.torn c.write.ensures.failures in
    let value = write_wrote c.write-2.result c.write-2.ensures.size c.write-2.ensures.made c.write-2.ensures.torn c.write-2.ensures.failures in
    wrote_ok c.in_ok-write-2.was (wrote_then c.in_ok-write.was (wrote_wider _ _ (omega arith) (omega arith) head) (wrote_wider _ _ (omega arith) (omega arith) value))

pub returns-clause-written : goal.returns-clause-written
returns-clause-written g c = both_written _ _ _ _ _ _ c.requires c.in_ok-write.ensures.written c.in_ok-write-2.ensures.written
