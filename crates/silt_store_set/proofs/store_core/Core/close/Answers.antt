use Rattle.silt_store_set.proofs.Calls.{endures}
use Rattle.silt_store_set.proofs.store_core.Core.close.Goals as goal

pub returns-clause-safe : goal.returns-clause-safe
returns-clause-safe g c = rw (← c.self.view_is) (endures g.D.Disk _ _ _ _ _ c.self.invariant).safe

pub returns-clause-begun : goal.returns-clause-begun
returns-clause-begun g c = rw (← c.self.view_is) (endures g.D.Disk _ _ _ _ _ c.self.invariant).begun

pub returns-clause-left : goal.returns-clause-left
returns-clause-left g c = rw (← c.self.view_is) (record { base = _; waiting = _; begun = (endures g.D.Disk _ _ _ _ _ c.self.invariant).begun })
