use Rattle.silt_log.proofs.Heads.{body_read}
use Rattle.silt_log.proofs.log.Log.read_row.Goals as goal

pub returns-clause-row : goal.returns-clause-row
returns-clause-row g c = λ honest.
    let log = c.args.self.now in
    body_read log.shape log.region c.args.place c.body_at.result _ _ _ c.body_at.ensures.value c.requires.out (c.in_ok-read.ensures.bytes honest)
