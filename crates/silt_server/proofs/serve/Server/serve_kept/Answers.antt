use Rattle.silt_server.proofs.Names.{◌%◌, ◌^◌, ◌∙◌, ℕ, ap, inl, sym, status_told}
use Rattle.silt_desk.specs.TraceLaws.{leaves_none}
use Rattle.silt_server.proofs.Serving.{calls_served, leaves_traced}
use Rattle.silt_server.proofs.serve.Server.serve_kept.Goals as goal

pub returns-in-Ok-clause-served : goal.returns-in-Ok-clause-served
returns-in-Ok-clause-served g c = λ is. let printed = c.serve_traced.ensures.traced.printed is in (printed.0, printed.1, printed.2 % 2 ^ 64, printed.5, c.serve_traced.ensures.left)

pub returns-in-Ok-clause-kept : goal.returns-in-Ok-clause-kept
returns-in-Ok-clause-kept g c = λ is. let traced = c.serve_traced.ensures.traced in (traced.last, traced.state.trace, traced.is, traced.agreed, traced.printed is)

pub returns-in-Ok-clause-calls : goal.returns-in-Ok-clause-calls
returns-in-Ok-clause-calls g c = λ is. calls_served g.D.Disk _ _ _ _ _ _ _ _ (λ trace n m k l one other. ap (λ (x : ℕ). x % 2 ^ 64) (sym one.0 ∙ other.0)) c.serve_traced.ensures.traced is

pub returns-in-Ok-clause-led : goal.returns-in-Ok-clause-led
returns-in-Ok-clause-led g c = leaves_traced g.D.Disk _ _ _ _ _ _ _ _ c.serve_traced.ensures.traced

pub returns-in-Err-clause-led : goal.returns-in-Err-clause-led
returns-in-Err-clause-led g c = leaves_none g.D.Disk c.args.core c.close.result c.close.ensures.disk c.standing-known.ensures.has_map c.standing-known.ensures.few c.standing-known.ensures.begun

pub returns-in-Err-clause-printed : goal.returns-in-Err-clause-printed
returns-in-Err-clause-printed g c = status_told c.refuse-status.result (λ printed. inl (sym c.close.ensures.disk, (c.in-Err.refusal, c.in-Err.ensures.cause, printed))) c.refuse-status.ensures
