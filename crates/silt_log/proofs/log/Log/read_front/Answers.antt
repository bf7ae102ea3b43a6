use Rattle.silt_log.proofs.Common.{arith, ◌∙◌}
use Rattle.silt_log.proofs.Heads.{front_read, front_value}
use Rattle.silt_log.proofs.log.Log.read_front.Goals as goal

pub returns-clause-head : goal.returns-clause-head
returns-clause-head g c = λ honest.
    let log = c.args.self.now in
    c.head_of.ensures
    ∙ front_read log.shape log.region c.args.place c.body_at-at.result _ _ _ _ c.body_at-at.ensures.value
    (omega (arith, c.body_at-at.ensures.fits, c.requires.size)) c.requires.least c.requires.most (c.in_ok-read.ensures.bytes honest) c.copy_from_slice.ensures.after

pub returns-clause-value : goal.returns-clause-value
returns-clause-value g c = λ honest whole.
    let log = c.args.self.now in
    front_value log.shape log.region c.args.place c.body_at-at.result _ _ _ c.body_at-at.ensures.value whole (c.in_ok-read.ensures.bytes honest)
