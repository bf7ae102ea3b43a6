use Rattle.silt_server.proofs.Sends.{shared}
use Rattle.silt_server.proofs.common.Serving+Shared+D+T+N+Job+D+T+N+N+G+R.run_shard.Goals as goal

pub run_beside-back-requires-sync-S : goal.run_beside-back-requires-sync-S
run_beside-back-requires-sync-S g c κs within = search shared depth 20
