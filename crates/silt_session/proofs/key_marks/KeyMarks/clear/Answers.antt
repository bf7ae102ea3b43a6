use Rattle.silt_session.proofs.Marks.{none_marked}
use Rattle.silt_session.proofs.key_marks.KeyMarks.clear.Goals as goal

pub returns : goal.returns
returns c = none_marked
