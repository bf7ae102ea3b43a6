use Rattle.silt_session.proofs.Marks.{none_marked}
use Rattle.silt_session.proofs.key_marks.KeyMarks.new.Goals as goal

pub returns : goal.returns
returns c = none_marked
