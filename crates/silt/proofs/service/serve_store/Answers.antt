use Rattle.std.proofs.Common.{inl, inr}
use Rattle.silt_wire.proofs.Statuses.{never_done, status_told}
use Rattle.silt.proofs.Endings.{served_ended}
use Rattle.silt.proofs.service.serve_store.Goals as goal

pub returns-in_default-clause-served : goal.returns-in_default-clause-served
returns-in_default-clause-served g c = never_done _ c.refuse_network-disk.result.1 c.refuse_network-disk.ensures.printed

pub returns-in_default-clause-bound : goal.returns-in_default-clause-bound
returns-in_default-clause-bound g c = never_done _ c.refuse_network-disk.result.1 c.refuse_network-disk.ensures.printed

pub returns-in_default-clause-printed : goal.returns-in_default-clause-printed
returns-in_default-clause-printed g c = status_told c.refuse_network-disk.result.1 (λ broken. inl (inr (inr (inl broken)))) c.refuse_network-disk.ensures.printed

pub returns-clause-served : goal.returns-clause-served
returns-clause-served g c = λ is.
    let was = (c.status_served-status.ensures.done is).0 in
    (c.serve-disk.ensures.served was, rw (c.limits_of-limits.ensures.audit) at (c.serve-disk.ensures.kept was))

pub returns-clause-quiet : goal.returns-clause-quiet
returns-clause-quiet g c = λ is. c.listener_fault-why.ensures (c.status_served-status.ensures.done is).0

pub returns-clause-printed : goal.returns-clause-printed
returns-clause-printed g c =
    served_ended _ _ _ c.serve-disk.result.1 c.status_served-status.result c.serve-disk.ensures.printed
    (λ was. (c.serve-disk.ensures.served was, rw (c.limits_of-limits.ensures.audit) at (c.serve-disk.ensures.kept was))) c.status_served-status.ensures.printed
