use Rattle.silt_resp.proofs.Common.{Some, rules, take, AnswersQuery, ServesCommands, asked_after}
use Rattle.silt_wire.proofs.Answering.{if-either}
use Rattle.silt_resp.proofs.Doing.{all-wrote, closed-part, some-taken, some-written}
use Rattle.silt_resp.proofs.session.answer_part.Goals as goal

pub returns-then-not-write_texts-clause-ends : goal.returns-then-not-write_texts-clause-ends
returns-then-not-write_texts-clause-ends g c =
    let answers = (AnswersQuery g.A.Answerer.answers g.A.Answerer.administers) in
    let s = c.args.settings.now in
    let gathered = if-either c.take_part-taken.result (λ part all client h. some-taken answers s client c.args.bytes.now part.count _ _ (Some c.new-texts.result.items)
    (Some c.take_part-taken.new.texts.items) (all client h)) c.take_part-taken.ensures.all c.take_part-taken.ensures.some in
    let wrote = c.write_texts.ensures.some in
    λ client h. some-written answers _ _ _ c.new-texts.result.items c.take_part-taken.new.texts.items wrote.0 _ _ c.new-texts.ensures.items (gathered client h)
    (rw c.deref.ensures.value at wrote.1) wrote.2

pub returns-then-gathered-clause-ends : goal.returns-then-gathered-clause-ends
returns-then-gathered-clause-ends g c = λ client h.
    let answers = (AnswersQuery g.A.Answerer.answers g.A.Answerer.administers) in
    let s = c.args.settings.now in
    let count = c.in-Ok.gathered.count in
    let front = take count c.args.bytes.now in
    let old = c.args.answerer.now in
    let new = c.take_part-taken.new.answerer in
    let before = g.W.Write.contents c.args.writer.now in
    let after = g.W.Write.contents c.write_texts.new.writer in
    let wrote = c.write_texts.ensures.all (search rules) in
    let behind = rw c.if-gathered.true at (c.in-Ok.ensures.behind client h) in
    let texts = c.take_part-taken.new.texts.items in
    let all : ServesCommands answers s client front old new before after = all-wrote answers (asked_after s client front) old new c.new-texts.result.items texts before after
    c.new-texts.ensures.items (c.in-Ok.ensures.all client h) (rw c.deref.ensures.value at wrote) in
    closed-part answers s client c.args.bytes.now count old new before after behind all
