use Rattle.silt_server.proofs.Names.{ap}
use Rattle.silt_server.proofs.serve.Server.serve_begun.Goals as goal

pub returns-clause-calls : goal.returns-clause-calls
returns-clause-calls g c = λ is. rw (ap (λ d. d.trace) c.end-status.ensures.same) (c.end-status.ensures.calls is)
