use Rattle.silt_desk.specs.TraceLaws.{leaves_none}
use Rattle.silt_server.proofs.serve.refuse_network.Goals as goal

pub returns-clause-led : goal.returns-clause-led
returns-clause-led g c = leaves_none g.D.Disk c.args.core c.close.result c.close.ensures.disk c.standing-known.ensures.has_map c.standing-known.ensures.few c.standing-known.ensures.begun
