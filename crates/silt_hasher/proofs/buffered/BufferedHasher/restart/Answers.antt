use Rattle.silt_hasher.proofs.Taking.{has_none}
use Rattle.silt_hasher.proofs.buffered.BufferedHasher.restart.Goals as goal

pub returns : goal.returns
returns c = has_none c.new-self-inside.result c.new-self-inside.ensures
