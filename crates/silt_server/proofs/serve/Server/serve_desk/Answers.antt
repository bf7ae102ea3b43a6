use Rattle.silt_server.proofs.Names.{told_weaker}
use Rattle.silt_server.proofs.Serving.{breaks_behind, served_written}
use Rattle.silt_server.proofs.serve.Server.serve_desk.Goals as goal

pub returns-in-Ok-clause-served : goal.returns-in-Ok-clause-served
returns-in-Ok-clause-served g c =
    λ is. served_written (g.L.Listens.has_port c.args.self.now.listener.now) g.T.Trace.counts _ _ _ _ c.in-Ok.ensures.head (c.serve_begun.ensures.calls is)

pub returns-in-Ok-clause-printed : goal.returns-in-Ok-clause-printed
returns-in-Ok-clause-printed g c =
    told_weaker c.serve_begun.result.1 (breaks_behind (g.L.Listens.has_port c.args.self.now.listener.now) _ _ _ c.in-Ok.ensures.head) c.serve_begun.ensures.printed
