use Rattle.std.proofs.Common.{◌≡◌, inr, rules}
use Rattle.silt.proofs.Endings.{quiet_ended}
use Rattle.silt.proofs.set_service.serve_entered.Goals as goal

pub returns-clause-served : goal.returns-clause-served
returns-clause-served g c =
    let all : c.as_slice-4.result.now ≡ c.serve-disks.result.0.items = search rules in
    let served = c.serve-disks.ensures in
    let status = c.status_served-status in
    rw (c.plain.ensures) (inr (
      rw all at c.failures_among.ensures,
      quiet_ended _ _ _ _ c.serve-disks.result.1 status.result served.printed c.listener_fault-why.ensures served.served status.ensures.printed,
    ))
