use Rattle.silt_server.proofs.Sends.{shared}
use Rattle.silt_server.proofs.common.Serving+Shared+D+T+N+Job+D+T+N+N+G+R.run_crew.Goals as goal

pub run_beside-requires-sync-S : goal.run_beside-requires-sync-S
run_beside-requires-sync-S g c κs within = search shared depth 20
