use Rattle.silt_server.proofs.Names.{◌≤◌}
use Rattle.silt_server.proofs.admission.fn.accept_clients.scope.Given as goal

-- no more sessions are counted than connections were accepted
abbrev pub invariant-loop : goal.invariant-loop
invariant-loop g l = l.count ≤ l.counting_listener.accepted
