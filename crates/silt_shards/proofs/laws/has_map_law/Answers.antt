use Rattle.silt_shards.proofs.Common.{length, map_of}
use Rattle.silt_shards.proofs.WholeMaps.{whole_get, whole_map}
use Rattle.silt_shards.proofs.laws.has_map_law.Goals as goal

pub returns : goal.returns
returns g c = λ cores. (whole_map map_of (length cores) cores, λ key. whole_get map_of (length cores) cores key.0)
