use Rattle.silt_log.proofs.Common.{arith, ◌∙◌}
use Rattle.silt_log.proofs.Heads.{head_read}
use Rattle.silt_log.proofs.log.Log.read_head.Goals as goal

pub returns-clause-head : goal.returns-clause-head
returns-clause-head g c = λ honest.
    let log = c.args.self.now in
    c.head_of.ensures ∙ head_read log.shape log.region c.args.place c.body_at.result _ _ c.body_at.ensures.value
    (omega (arith, c.body_at.ensures.fits, c.requires.size)) (c.in_ok-read.ensures.bytes honest)
