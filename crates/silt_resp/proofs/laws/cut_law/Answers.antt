use Rattle.silt_resp.proofs.Streams.{cut_law}
use Rattle.silt_resp.proofs.laws.cut_law.Goals as goal

pub returns : goal.returns
returns c = cut_law
