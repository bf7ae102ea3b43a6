use Rattle.silt_server.proofs.Names.{no_thread_text}
use Rattle.silt_server.proofs.Serving.{wrote_some}
use Rattle.silt_server.proofs.written.lack_thread.Goals as goal

pub returns : goal.returns
returns g c = wrote_some c.write.result (no_thread_text c.args.protocol) _ _ (rw c.no_thread_text.ensures at c.write.ensures.bytes)
