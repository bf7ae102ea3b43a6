use Rattle.std.proofs.lemmas.Result.{on_ok_weaker}
use Rattle.silt_desk.proofs.view.DeskViewView.+note_moments.Goals as goal

pub returns : goal.returns
returns g t c = rw (c.in-Some.ensures.cases.0) (on_ok_weaker c.note_moments.result (λ rest. ((_, c.in_ok-note_in.ensures), rest)) c.note_moments.ensures)
