use Rattle.std.proofs.Common.{refl}
use Rattle.silt_hasher.specs.Taking.{HasTaken, hash_from, taken_after}
use Rattle.silt_hasher.proofs.state.Sha1State.new.Goals as goal

pub returns : goal.returns
unfolding HasTaken hash_from taken_after
returns c = refl
