use Rattle.silt_server.proofs.Names.{sendable, crosses}
use Rattle.silt_server.proofs.common.fn.Serving+Shared+D+T+N+Job+D+T+N+N+G+R.run.care_beside+arg5.Goals as goal

pub run_crew-requires-send-D : goal.run_crew-requires-send-D
run_crew-requires-send-D g c κs within = search (sendable, crosses) depth 20

pub run_crew-requires-send-T : goal.run_crew-requires-send-T
run_crew-requires-send-T g c κs within = search (sendable, crosses) depth 20

pub run_crew-requires-send-N : goal.run_crew-requires-send-N
run_crew-requires-send-N g c κs within = search (sendable, crosses) depth 20

pub run_crew-requires-send-D-Fault : goal.run_crew-requires-send-D-Fault
run_crew-requires-send-D-Fault g c κs within = search (sendable, crosses) depth 20
