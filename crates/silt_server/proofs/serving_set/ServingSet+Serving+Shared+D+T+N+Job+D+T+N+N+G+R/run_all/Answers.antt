use Rattle.silt_server.proofs.Sends.{shared}
use Rattle.silt_server.proofs.serving_set.ServingSet+Serving+Shared+D+T+N+Job+D+T+N+N+G+R.run_all.Goals as goal

pub run_shards-requires-sync-S : goal.run_shards-requires-sync-S
run_shards-requires-sync-S g c κs within = search shared depth 20
