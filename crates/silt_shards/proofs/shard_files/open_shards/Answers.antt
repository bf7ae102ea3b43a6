use Rattle.silt_shards.proofs.Openings.{result_alike}
use Rattle.silt_shards.proofs.shard_files.open_shards.Goals as goal

pub returns-clause-alike : goal.returns-clause-alike
returns-clause-alike g c = result_alike c.gather.result c.gather.ensures.shape
