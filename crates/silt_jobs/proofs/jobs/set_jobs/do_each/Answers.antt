use Rattle.silt_jobs.proofs.Common.{inl, inr}
use Rattle.silt_jobs.proofs.jobs.set_jobs.do_each.Goals as goal

pub returns-in-Ok : goal.returns-in-Ok
returns-in-Ok g c = inr (c.in-Ok.disks.items, rw (c.is_shared.ensures) at c.in-Ok.ensures.opened, rw c.in-Ok.ensures.count at c.do_on_each.ensures)

pub returns-in-Err : goal.returns-in-Err
returns-in-Err g c = inl (c.in-Err.none, rw (c.is_shared.ensures) at c.in-Err.ensures.none, c.of.ensures.0, rw c.of.ensures.1 c.refuse.ensures)
