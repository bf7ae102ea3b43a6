use Rattle.silt_jobs.proofs.Common.{take, get_or, take_more}
use Rattle.silt_jobs.proofs.Tallies.{tally_more}
use Rattle.silt_jobs.proofs.people.tally.Tally.take.Goals as goal

pub loop-byte-preserved : goal.loop-byte-preserved
loop-byte-preserved c =
    let bytes = c.args.bytes.now in
    let at = c.loop-byte.byte-index in
    cc (c.take_byte.ensures, c.loop-byte.invariant, tally_more c.args.self.now (take at bytes) (get_or bytes at 0), take_more bytes at 0 c.loop-byte-test.true)
