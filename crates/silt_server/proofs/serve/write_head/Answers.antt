use Rattle.silt_server.proofs.Serving.{head_written}
use Rattle.silt_server.proofs.serve.write_head.Goals as goal

pub returns : goal.returns
returns g c = head_written c.write_listening.result _ _ _ c.args.port c.in_ok-write_opened.ensures c.write_listening.ensures
