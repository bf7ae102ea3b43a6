use Rattle.silt_manifest.proofs.Common.{rules}
use Rattle.silt_manifest.proofs.ReadExits.{reads_held, reads_damage}
use Rattle.silt_manifest.proofs.slot.read_slot.Goals as goal

pub returns-in-Ok-clause-held : goal.returns-in-Ok-clause-held
returns-in-Ok-clause-held g c =
    reads_held (g.D.Disk.content c.args.disk.now) c.args.geometry.now c.args.version c.args.slot c.read.new.buf c.in-Ok.held
    (λ honest. rw (← c.slot_start.ensures) (search rules)) c.in-Ok.ensures.held.0 c.in-Ok.ensures.held.1

pub returns-in-Err-clause-refused : goal.returns-in-Err-clause-refused
returns-in-Err-clause-refused g c =
    reads_damage (g.D.Disk.content c.args.disk.now) c.args.geometry.now c.args.version c.args.slot c.read.new.buf c.in-Err.damage
    (λ honest. rw (← c.slot_start.ensures) (search rules)) c.in-Err.ensures.damaged.0 c.in-Err.ensures.damaged.1
