use Rattle.silt_conversion.proofs.Elsewhere.{written_elsewhere}
use Rattle.silt_conversion.proofs.laws.written_elsewhere_law.Goals as goal

pub returns : goal.returns
returns c = written_elsewhere
