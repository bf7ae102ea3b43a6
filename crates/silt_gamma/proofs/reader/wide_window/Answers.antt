use Rattle.silt_gamma.proofs.Reading.{window_full}
use Rattle.silt_gamma.proofs.reader.wide_window.Goals as goal

pub returns-clause-same : goal.returns-clause-same
returns-clause-same c = λ end is. window_full _ _ end _ _ _ is c.window_at.type_inv c.window_at.ensures
