use Rattle.silt_desk.proofs.Looking.{gave_bytes, gave_fault}
use Rattle.silt_desk.proofs.view.DeskViewView.read_at.Goals as goal

pub returns-clause-bytes : goal.returns-clause-bytes
returns-clause-bytes g c = gave_bytes {F = g.row.D-Fault.Denot} g.D.Disk c.behind-read.inside.core c.args.at c.read_in.new.buf c.read_in.result c.read_in.ensures.bytes

pub returns-clause-fault : goal.returns-clause-fault
returns-clause-fault g c = gave_fault {F = g.row.D-Fault.Denot} g.D.Disk c.behind-read.inside.core c.args.at _ c.read_in.result c.read_in.ensures.fault
