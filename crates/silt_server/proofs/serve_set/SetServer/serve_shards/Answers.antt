use Rattle.silt_server.proofs.Names.{inl, inr, map, status_told, told_weaker}
use Rattle.silt_server.proofs.Serving.{breaks_behind}
use Rattle.silt_server.proofs.Sets.{some_served_written}
use Rattle.silt_server.proofs.serve_set.SetServer.serve_shards.Goals as goal

pub returns-in-Ok-clause-served : goal.returns-in-Ok-clause-served
returns-in-Ok-clause-served g c =
    λ is. some_served_written (g.L.Listens.has_port c.args.self.now.listener.now) (λ state. g.T.Trace.counts state.trace) (λ desks. map (λ desk. desk.trace) desks.items)
    c.serve_begun.result.0 _ _ _ c.in-Ok.ensures.head (c.serve_begun.ensures.calls is)

pub returns-in-Ok-clause-printed : goal.returns-in-Ok-clause-printed
returns-in-Ok-clause-printed g c =
    told_weaker c.serve_begun.result.1 (breaks_behind (g.L.Listens.has_port c.args.self.now.listener.now) _ _ _ c.in-Ok.ensures.head) c.serve_begun.ensures.printed

pub returns-in-Err-clause-printed : goal.returns-in-Err-clause-printed
returns-in-Err-clause-printed g c = status_told c.in-Err.status (λ printed. inr (inl printed)) c.in-Err.ensures.none
