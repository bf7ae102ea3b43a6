use Rattle.silt_recovery.proofs.Common.{GaveAny, EngineState, held_stores}
use Rattle.silt_recovery.proofs.OpeningCosts.{only_synced, opened, seal_failed, sync_failed}
use Rattle.silt_recovery.proofs.Takings.{looked_up, sealed_images, settled_image, taken_up, unsettled, unwritten}
use Rattle.silt_recovery.proofs.recovery.take_up.Goals as goal

pub returns-in-Err-clause-images : goal.returns-in-Err-clause-images
returns-in-Err-clause-images g c = unsettled (g.D.Disk.content c.args.disk.now) (g.D.Disk.content c.sync.new.self) c.in-Err.ensures.unchanged

pub returns-in-Err-examine-clause-cause : goal.returns-in-Err-examine-clause-cause
returns-in-Err-examine-clause-cause g c =
    looked_up (GaveAny g.D.Disk.gave c.sync.new.self) (g.D.Disk.content c.args.disk.now) (g.D.Disk.content c.sync.new.self)
    c.in-Err-examine.error c.in_default.ensures.settled c.in-Err-examine.ensures.cause

pub returns-in-Err-examine-clause-unwritten : goal.returns-in-Err-examine-clause-unwritten
returns-in-Err-examine-clause-unwritten g c = unwritten (g.D.Disk.content c.args.disk.now) (g.D.Disk.content c.sync.new.self) c.in-Err-examine.error c.in_default.ensures.settled

pub returns-in-Err-examine-clause-images : goal.returns-in-Err-examine-clause-images
returns-in-Err-examine-clause-images g c = settled_image (g.D.Disk.content c.args.disk.now) (g.D.Disk.content c.sync.new.self) c.in_default.ensures.settled

pub returns-in-Ok-seal-clause-ok : goal.returns-in-Ok-seal-clause-ok
returns-in-Ok-seal-clause-ok g c =
    let held : EngineState = held_stores c.in-Ok.held in
    taken_up (g.D.Disk.content c.args.disk.now) (g.D.Disk.content c.sync.new.self) (g.D.Disk.content c.seal.new.disk) held
    c.in_default.ensures.settled c.in-Ok.ensures.holds c.seal.ensures.wrote.changes c.seal.ensures.images
    c.seal.new.self c.seal.ensures.wrote.size c.sync.ensures.size c.in-Ok-seal.ensures.store

pub returns-in-Ok-seal-clause-images : goal.returns-in-Ok-seal-clause-images
returns-in-Ok-seal-clause-images g c =
    let held : EngineState = held_stores c.in-Ok.held in
    sealed_images (g.D.Disk.content c.args.disk.now) (g.D.Disk.content c.sync.new.self) (g.D.Disk.content c.seal.new.disk) held
    c.in_default.ensures.settled c.in-Ok.ensures.holds c.seal.ensures.wrote.changes c.seal.ensures.images

pub returns-in-Err-seal-clause-images : goal.returns-in-Err-seal-clause-images
returns-in-Err-seal-clause-images g c =
    let held : EngineState = held_stores c.in-Ok.held in
    sealed_images (g.D.Disk.content c.args.disk.now) (g.D.Disk.content c.sync.new.self) (g.D.Disk.content c.seal.new.disk) held
    c.in_default.ensures.settled c.in-Ok.ensures.holds c.seal.ensures.wrote.changes c.seal.ensures.images

pub returns-in-Err-clause-made : goal.returns-in-Err-clause-made
returns-in-Err-clause-made g c = sync_failed c.args.disk.now c.sync.new.self c.sync.ensures.made

pub returns-in-Err-examine-clause-made : goal.returns-in-Err-examine-clause-made
returns-in-Err-examine-clause-made g c = only_synced c.args.disk.now c.sync.new.self c.in-Err-examine.error c.sync.ensures.made

pub returns-in-Ok-seal-clause-made : goal.returns-in-Ok-seal-clause-made
returns-in-Ok-seal-clause-made g c =
    opened g.D.Disk.content c.args.disk.now c.sync.new.self c.seal.new.disk (held_stores c.in-Ok.held) c.in_default.ensures.settled
    c.in-Ok.ensures.holds c.sync.ensures.made c.in-Ok-seal.ensures.wrote.made

pub returns-in-Err-seal-clause-made : goal.returns-in-Err-seal-clause-made
returns-in-Err-seal-clause-made g c = seal_failed c.args.disk.now c.sync.new.self c.seal.new.disk c.in-Ok.held.active.log.stale c.sync.ensures.made c.in-Err-seal.ensures.wrote.made
