use Rattle.silt_server.proofs.Sends.{shared}
use Rattle.silt_server.proofs.serving_set.ServingSet+Serving+Shared+D+T+N+Job+D+T+N+N+G+R.serve_sessions.Goals as goal

pub accept_clients-accepted-requires-sync-S : goal.accept_clients-accepted-requires-sync-S
accept_clients-accepted-requires-sync-S g c κs within = search shared depth 20
