use Rattle.silt_server.proofs.Sends.{shared}
use Rattle.silt_server.proofs.serving_set.ServingSet+Serving+Shared+D+T+N+Job+D+T+N+N+G+R.run.Goals as goal

pub care_beside-requires-sync-S : goal.care_beside-requires-sync-S
care_beside-requires-sync-S g c κs within = search shared depth 20
