use Rattle.silt_log.proofs.Common.{arith}
use Rattle.silt_log.proofs.Parts.{value_read}
use Rattle.silt_log.proofs.log.Log.read_value.Goals as goal

pub returns-clause-value : goal.returns-clause-value
returns-clause-value g c = λ honest.
    let log = c.args.self.now in
    value_read log.shape log.region c.args.place c.body_at.result _ _ _ c.body_at.ensures.value (omega (arith, c.body_at.ensures.fits, c.requires.size))
    c.requires.out (c.in_ok-read.ensures.bytes honest)
