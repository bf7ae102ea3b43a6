use Rattle.silt_desk.proofs.Common.{length}
use Rattle.silt_desk.proofs.view.DeskViewView.+note_moments.Given as goal

abbrev pub decreases-note_moments : goal.decreases-note_moments
decreases-note_moments g l = length l.views.now
