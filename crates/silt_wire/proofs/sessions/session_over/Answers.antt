use Rattle.silt_wire.proofs.Common.{◌++◌, [], List, ℕ, sym, subst, take, AnswersQuery, HoldsBytes}
use Rattle.silt_wire.proofs.Answering.{Ends-cut, Ends-unbegun, all-bytes, some-bytes}
use Rattle.silt_wire.proofs.Streams.{Consumes-append, Consumes-keeps, rest_after-append}
use Rattle.silt_wire.proofs.sessions.session_over.Goals.{in-Ok-read+in-Ok-answer_read, in-Err}
use Rattle.silt_wire.proofs.sessions.session_over.Goals as goal

pub returns-in_default-clause-ends : goal.returns-in_default-clause-ends
returns-in_default-clause-ends g c = Ends-unbegun (AnswersQuery g.A.Answerer.answers g.A.Answerer.administers) c.args.value_len (record {
  answerer = c.args.answerer.now;
  remaining = g.R.Read.remaining c.args.reader.now;
  contents = g.W.Write.contents c.args.writer.now;
})

pub returns-in-Err-answer_read-clause-ends : goal.returns-in-Err-answer_read-clause-ends
returns-in-Err-answer_read-clause-ends g c =
    let i = c.loop.invariant in
    let more = take c.in-Ok-read.count c.read.new.buf in
    Ends-cut (AnswersQuery g.A.Answerer.answers g.A.Answerer.administers) c.in-Err-answer_read.end c.args.value_len _ _ (i.1 ++ more) c.in-Err-answer_read.ensures.cut
    (Consumes-append _ _ _ i.1 more i.2 c.in-Ok-read.ensures.bytes.0)
    (some-bytes (AnswersQuery g.A.Answerer.answers g.A.Answerer.administers) c.args.value_len [] i.1 more _ _ _ _ _ _ i.4 (c.in-Err-answer_read.ensures.some _ i.3))

pub loop-preserved : goal.loop-preserved
loop-preserved g c =
    let i = c.loop.invariant in
    elim c.match-read.branch [
      | in-Ok-read+in-Ok-answer_read w ↦
          let more = take w.in-Ok-read.count c.read.new.buf in
          let P = λ (q : List ℕ). HoldsBytes w.answer_read.new.pending q in
          rw (w.writer-is, w.answerer-is, w.pending-is) (
            w.answer_read.ensures.stays,
            i.1 ++ more,
            Consumes-append _ _ _ i.1 more i.2 w.in-Ok-read.ensures.bytes.0,
            subst P (sym (rest_after-append [] i.1 more)) (w.in-Ok-answer_read.ensures.holds _ i.3),
            all-bytes (AnswersQuery g.A.Answerer.answers g.A.Answerer.administers) c.args.value_len [] i.1 more _ _ _ _ _ _ i.4 (w.in-Ok-answer_read.ensures.all _ i.3),
          )
      | in-Err w ↦ rw (w.writer-is, w.answerer-is, w.pending-is) (i.0, i.1, Consumes-keeps _ _ _ _ i.2 w.in-Err.ensures.bytes, i.3, i.4)
    ]
