use Rattle.silt_hash_store.proofs.Common.{arith}
use Rattle.silt_disk.proofs.Wrote.{write_wrote, wrote_at, wrote_err, wrote_ok}
use Rattle.silt_hash_store.proofs.Reading.{slot_written}
use Rattle.silt_hash_store.proofs.region.HashRegion.write_slot.Goals as goal

pub returns-in_err-write-clause-wrote : goal.returns-in_err-write-clause-wrote
returns-in_err-write-clause-wrote g c =
    let wrote = write_wrote c.write.result c.write.ensures.size c.write.ensures.made c.write.ensures.torn c.write.ensures.failures in
    wrote_err c.in_err-write.was c.from_residual.ensures.1 (omega arith) (omega arith) (wrote_at c.slot_at.ensures.value c.requires.row wrote)

pub returns-clause-wrote : goal.returns-clause-wrote
returns-clause-wrote g c =
    let wrote = write_wrote c.write.result c.write.ensures.size c.write.ensures.made c.write.ensures.torn c.write.ensures.failures in
    wrote_ok c.in_ok-write.was (wrote_at c.slot_at.ensures.value c.requires.row wrote)

pub returns-clause-written : goal.returns-clause-written
returns-clause-written g c = λ honest. slot_written c.args.self.now.geometry c.args.self.now.number c.args.slot _ _ _ _ c.slot_at.ensures.value c.requires.row
    (omega (arith, c.slot_at.ensures.fits, c.requires.size)) c.in_ok-write.ensures.written honest
