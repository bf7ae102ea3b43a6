use Rattle.silt_server.proofs.Serving.{no_network_written}
use Rattle.silt_server.proofs.serve.write_no_network.Goals as goal

pub returns : goal.returns
returns g c = no_network_written c.write_network_fault.result _ _ _ c.in_ok-write_opened.ensures c.write_network_fault.ensures
