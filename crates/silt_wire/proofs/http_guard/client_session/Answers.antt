use Rattle.silt_wire.proofs.Common.{AnswersQuery}
use Rattle.silt_wire.proofs.Http.{http_nothing}
use Rattle.silt_wire.proofs.http_guard.client_session.Goals as goal

pub returns-clause-http : goal.returns-clause-http
returns-clause-http g c =
    http_nothing (AnswersQuery g.A.Answerer.answers g.A.Answerer.administers) c.session_over.result c.args.value_len
    (g.R.Read.remaining c.args.reader) _ _ _ _ _ _ c.new-guard.ensures c.session_over.ensures.ends
