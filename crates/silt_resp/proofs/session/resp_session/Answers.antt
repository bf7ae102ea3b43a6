use Rattle.silt_resp.proofs.Common.{AnswersQuery}
use Rattle.silt_resp.proofs.Browsers.{http_nothing}
use Rattle.silt_resp.proofs.session.resp_session.Goals as goal

pub returns-clause-http : goal.returns-clause-http
returns-clause-http g c =
    http_nothing (AnswersQuery g.A.Answerer.answers g.A.Answerer.administers) c.session_over.result c.args.settings.now
    (g.R.Read.remaining c.args.reader) _ _ _ _ _ _ c.new-guard.ensures c.session_over.ensures
