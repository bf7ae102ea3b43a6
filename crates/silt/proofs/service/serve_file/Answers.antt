use Rattle.std.proofs.Common.{inl, inr, refl}
use Rattle.silt.proofs.service.serve_file.Goals as goal

pub returns-in-Ok : goal.returns-in-Ok
returns-in-Ok g c = inr (c.in-Ok.disk, c.in-Ok.ensures.opened, c.serve_disk.ensures)

pub returns-in-Err : goal.returns-in-Err
returns-in-Err g c = inl (refl, (c.in-Err.error, c.in-Err.ensures.not_opened, refl, c.refuse.ensures))
