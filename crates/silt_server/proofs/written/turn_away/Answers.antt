use Rattle.silt_server.proofs.Names.{◌∙◌, busy_text}
use Rattle.silt_server.proofs.Serving.{wrote_some}
use Rattle.silt_server.proofs.written.turn_away.Goals as goal

pub returns : goal.returns
returns g c = wrote_some c.write.result (busy_text c.args.limits.now.protocol c.args.limits.now.clients) _ _ (rw (c.as_bytes.ensures.value ∙ c.in-Ok.ensures) at c.write.ensures.bytes)
