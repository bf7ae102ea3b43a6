use Rattle.silt_hasher.proofs.Taking.{has_none}
use Rattle.silt_hasher.proofs.buffered.BufferedHasher.new.Goals as goal

pub returns : goal.returns
returns c = has_none c.new.result c.new.ensures
