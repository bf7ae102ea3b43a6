use Rattle.silt_device.proofs.Freeing.{restarts_over_all}
use Rattle.silt_device.proofs.buffered_disk.BufferedDiskStoppable.restart.Goals as goal

pub returns-clause-content : goal.returns-clause-content
returns-clause-content g c =
    rw (← c.self.view_is, c.clear.ensures) (restarts_over_all c.self.inside.buffers (g.D.Disk.content c.self.inside.inner) (g.D.Disk.content c.restart.result) c.restart.ensures.content)
