use Rattle.silt_wire.proofs.Common.{Some, ◌≡◌, string_bytes, subst, List, ℕ, AnswersQuery, IsBeginning}
use Rattle.silt_wire.proofs.Answering.{if-either, some-taken, some-written}
use Rattle.silt_wire.proofs.sessions.answer_part.Goals as goal

pub returns-then-not-write_texts-clause-some : goal.returns-then-not-write_texts-clause-some
returns-then-not-write_texts-clause-some g c =
    let gathered = if-either c.take_part-taken.result
    (λ count all p h. some-taken (AnswersQuery g.A.Answerer.answers g.A.Answerer.administers) c.args.value_len p c.args.bytes.now count
    _ _ (Some (string_bytes c.new-texts.result)) (Some (string_bytes c.take_part-taken.new.texts)) (all p h)) c.take_part-taken.ensures.all c.take_part-taken.ensures.some in
    let wrote = c.write_texts.ensures.some in
    let is : c.as_bytes.result.now ≡ string_bytes c.take_part-taken.new.texts = c.as_bytes.ensures.value in
    λ p h. some-written (AnswersQuery g.A.Answerer.answers g.A.Answerer.administers) _ _ _ _ _ wrote.0 _ _ c.new-texts.ensures.bytes
    (gathered p h) (subst (λ (t : List ℕ). IsBeginning wrote.0 t) is wrote.1) wrote.2
