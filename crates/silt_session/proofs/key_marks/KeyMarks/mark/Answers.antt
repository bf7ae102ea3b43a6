use Rattle.silt_session.proofs.Common.{arith}
use Rattle.silt_session.proofs.Marks.{marked_too}
use Rattle.silt_session.proofs.key_marks.KeyMarks.mark.Goals as goal

pub returns : goal.returns
returns c = λ number.
    let place = c.place_of-word.ensures in
    marked_too c.args.self.now.words c.place_of-word.result.0 c.place_of-word.result.1 place.within.1 (omega arith) _ number place.word place.bit
