use Rattle.silt_log.proofs.Common.{arith}
use Rattle.silt_log.proofs.Parts.{key_read}
use Rattle.silt_log.proofs.log.Log.read_key.Goals as goal

pub returns-clause-key : goal.returns-clause-key
returns-clause-key g c = λ honest.
    let log = c.args.self.now in
    key_read log.shape log.region c.args.place c.body_at.result _ _ c.body_at.ensures.value (omega (arith, c.body_at.ensures.fits, c.requires.size)) (c.in_ok-read.ensures.bytes honest)
