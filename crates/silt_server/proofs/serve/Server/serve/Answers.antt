use Rattle.silt_server.proofs.Names.{◌%◌, ◌^◌, ◌∙◌, inr, sym, told_weaker}
use Rattle.silt_server.proofs.Serving.{calls_served, leaves_traced}
use Rattle.silt_server.proofs.serve.Server.serve.Goals as goal

pub returns-in-None-clause-served : goal.returns-in-None-clause-served
returns-in-None-clause-served g c = λ is. let printed = c.serve_traced.ensures.traced.printed is in (printed.0, printed.1, printed.2 % 2 ^ 64, printed.5, c.serve_traced.ensures.left)

pub returns-in-None-clause-calls : goal.returns-in-None-clause-calls
returns-in-None-clause-calls g c = λ is. calls_served g.D.Disk _ _ _ _ _ _ _ _ (λ trace n m k l one other. sym one.0 ∙ other.0) c.serve_traced.ensures.traced is

pub returns-in-None-clause-led : goal.returns-in-None-clause-led
returns-in-None-clause-led g c = leaves_traced g.D.Disk _ _ _ _ _ _ _ _ c.serve_traced.ensures.traced

pub returns-in-None-clause-printed : goal.returns-in-None-clause-printed
returns-in-None-clause-printed g c = told_weaker c.serve_traced.result.1 (λ printed. inr printed) c.serve_traced.ensures.printed
