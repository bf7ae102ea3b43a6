use Rattle.silt_wire.proofs.Common.{ℕ, List, take, sym, subst, arith, AnswersQuery, HoldsBytes, ServesAll, ServesSome, rest_after}
use Rattle.silt_wire.proofs.Answering.{all-part, on-err, rest_after-part, some-part}
use Rattle.silt_wire.proofs.sessions.answer_read.Goals as goal

pub returns-in_err-done-clause-some : goal.returns-in_err-done-clause-some
returns-in_err-done-clause-some g c =
    let done = c.loop-done.done in
    on-err c.from_residual.result (λ p h.
    let before = c.loop-done.invariant.told p h in
    let P = λ (r : List ℕ). ServesSome (AnswersQuery g.A.Answerer.answers g.A.Answerer.administers) c.args.value_len
    (rest_after p (take done c.args.bytes.now)) r c.loop-done.answerer c.answer_part.new.answerer (g.W.Write.contents c.loop-done.writer) (g.W.Write.contents c.answer_part.new.writer) in
    some-part (AnswersQuery g.A.Answerer.answers g.A.Answerer.administers) c.args.value_len p c.args.bytes.now done _ _ _ _ _ _
    before.all (subst P c.split_at.ensures.back (c.in_err-done.ensures.some _ before.holds)))

pub loop-done-preserved : goal.loop-done-preserved
loop-done-preserved g c =
    let done = c.loop-done.done in
    let count = c.in_ok-done.field-0 in
    let bytes = c.args.bytes.now in
    let back = c.split_at.ensures.back in
    let bound = c.in_ok-done.ensures.count.1 in
    let rest = c.split_at.ensures.back_len in
    record {
      within = omega arith;
      stays = c.answer_part.ensures.stays;
      told = λ p h.
          let before = c.loop-done.invariant.told p h in
          let H = λ (r : List ℕ). HoldsBytes c.answer_part.new.pending (rest_after (rest_after p (take done bytes)) (take count r)) in
          let P = λ (r : List ℕ). ServesAll (AnswersQuery g.A.Answerer.answers g.A.Answerer.administers) c.args.value_len (rest_after p (take done bytes))
          (take count r) c.loop-done.answerer c.answer_part.new.answerer (g.W.Write.contents c.loop-done.writer) (g.W.Write.contents c.answer_part.new.writer) in
          record {
            holds = subst (λ (q : List ℕ). HoldsBytes c.answer_part.new.pending q) (sym (rest_after-part p bytes done count)) (subst H back (c.in_ok-done.ensures.holds _ before.holds));
            all = all-part (AnswersQuery g.A.Answerer.answers g.A.Answerer.administers) c.args.value_len p bytes done count _ _ _
                _ _ _ before.all (subst P back (c.in_ok-done.ensures.all _ before.holds));
          };
    }
