use Rattle.silt_resp.proofs.Common.{◌++◌, take, AnswersQuery, new_client}
use Rattle.silt_wire.proofs.Streams.{Consumes-append, Consumes-keeps}
use Rattle.silt_resp.proofs.Doing.{all-bytes, client_after-append, ends-bytes, last_cut}
use Rattle.silt_resp.proofs.session.session_over.Goals as goal
use Rattle.silt_resp.proofs.session.session_over.Goals.{in-Err, in-Ok+in-Ok-answer_read}

pub returns-in-Err-answer_read : goal.returns-in-Err-answer_read
returns-in-Err-answer_read g c =
    let i = c.loop.invariant in
    let more = take c.in-Ok.count c.read.new.buf in
    let end = c.in-Err-answer_read.end in (
      i.1 ++ more,
      Consumes-append _ _ _ i.1 more i.2 c.in-Ok.ensures.bytes.0,
      last_cut end _ c.in-Err-answer_read.ensures.cut,
      ends-bytes (AnswersQuery g.A.Answerer.answers g.A.Answerer.administers) end c.args.settings.now (new_client c.args.settings.now)
          i.1 more _ _ _ _ _ _ i.4 (c.in-Err-answer_read.ensures.ends _ i.3),
    )

pub loop-preserved : goal.loop-preserved
loop-preserved g c =
    let i = c.loop.invariant in
    let s = c.args.settings.now in
    let client = new_client s in
    elim c.match-read.branch [
      | in-Ok+in-Ok-answer_read w ↦
          let more = take w.in-Ok.count c.read.new.buf in
          rw (w.writer-is, w.answerer-is, w.talk-is) (
            w.answer_read.ensures.stays,
            i.1 ++ more,
            Consumes-append _ _ _ i.1 more i.2 w.in-Ok.ensures.bytes.0,
            rw (client_after-append s client i.1 more) (w.in-Ok-answer_read.ensures.holds _ i.3),
            all-bytes (AnswersQuery g.A.Answerer.answers g.A.Answerer.administers) s client i.1 more _ _ _ _ _ _ i.4 (w.in-Ok-answer_read.ensures.all _ i.3),
          )
      | in-Err w ↦ rw (w.writer-is, w.answerer-is, w.talk-is) (i.0, i.1, Consumes-keeps _ _ _ _ i.2 w.in-Err.ensures.bytes, i.3, i.4)
    ]
