use Rattle.silt_shards.proofs.SetMaps.{set_map_law}
use Rattle.silt_shards.proofs.laws.set_map_law.Goals as goal

pub returns : goal.returns
returns g c = set_map_law g.D.Disk
