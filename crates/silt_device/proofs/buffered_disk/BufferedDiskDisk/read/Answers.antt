use Rattle.silt_device.proofs.Common.{◌≤◌, ◌+◌, length, slice_range, ℕ, ap, rules, arith, sym, ◌∙◌, image_over}
use Rattle.silt_device.proofs.Freeing.{all_held, all_laid}
use Rattle.silt_device.proofs.Waiting.{fits_inner, size_over_all}
use Rattle.silt_device.proofs.buffered_disk.BufferedDiskDisk.read.Goals as goal

pub holds-requires : goal.holds-requires
holds-requires g c =
    let now = fits_inner g.D.Disk.content c.self.view_is c.requires in
    let below : c.args.at + length c.args.buf.now ≤ c.len-known.result = omega (arith, now, size_over_all c.self.inside.buffers (g.D.Disk.content c.self.inside.inner), c.len-known.ensures) in
    search (rules, below)

pub returns-then-holds-clause-bytes : goal.returns-then-holds-clause-bytes
returns-then-holds-clause-bytes g c = λ honest. rw (← c.self.view_is) (all_held c.self.inside.buffers c.args.at (g.D.Disk.content c.self.inside.inner).shown _ _ c.lay_over.ensures
    (fits_inner g.D.Disk.content c.self.view_is c.requires) (sym c.holds.ensures ∙ c.if-holds.true))

pub read-requires : goal.read-requires
read-requires g c = fits_inner g.D.Disk.content c.self.view_is c.requires

pub lay_over-requires-in-Ok : goal.lay_over-requires-in-Ok
lay_over-requires-in-Ok g c =
    let now = fits_inner g.D.Disk.content c.self.view_is c.requires in
    let below : c.args.at + length c.read.new.buf ≤ c.len-known.result =
    omega (arith, now, c.read.auto.buf, size_over_all c.self.inside.buffers (g.D.Disk.content c.self.inside.inner), c.len-known.ensures) in
    search (rules, below)

pub returns-in-Ok-clause-bytes : goal.returns-in-Ok-clause-bytes
returns-in-Ok-clause-bytes g c =
    let b = c.self.inside.buffers in
    let image = (g.D.Disk.content c.self.inside.inner).shown in
    let now = fits_inner g.D.Disk.content c.self.view_is c.requires in
    let fits : c.args.at + length c.read.new.buf ≤ length image = omega (arith, now, c.read.auto.buf) in
    let over = image_over b.first (image_over b.second (image_over b.third image)) in
    rw (← c.self.view_is) (λ honest.
    all_laid b c.args.at image c.read.new.buf _ c.lay_over-in-Ok.ensures fits (c.in-Ok.ensures.bytes honest ∙ ap (λ (n : ℕ). slice_range image c.args.at (c.args.at + n)) (sym c.read.auto.buf))
    ∙ ap (λ (n : ℕ). slice_range over c.args.at (c.args.at + n)) c.read.auto.buf)
