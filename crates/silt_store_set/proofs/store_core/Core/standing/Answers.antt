use Rattle.silt_store_set.proofs.Calls.{endures_seen}
use Rattle.silt_store_set.proofs.StepsLeft.{left_seen}
use Rattle.silt_store_set.proofs.store_core.Core.standing.Goals as goal

pub returns-clause-safe : goal.returns-clause-safe
returns-clause-safe g c = (endures_seen g.D.Disk _ _ _ _ _ _ c.self.view_is c.self.invariant).safe

pub returns-clause-begun : goal.returns-clause-begun
returns-clause-begun g c = (endures_seen g.D.Disk _ _ _ _ _ _ c.self.view_is c.self.invariant).begun

pub returns-clause-has_map : goal.returns-clause-has_map
returns-clause-has_map g c = (endures_seen g.D.Disk _ _ _ _ _ _ c.self.view_is c.self.invariant).has_map

pub returns-clause-few : goal.returns-clause-few
returns-clause-few g c = (endures_seen g.D.Disk _ _ _ _ _ _ c.self.view_is c.self.invariant).few

pub returns-clause-merging : goal.returns-clause-merging
returns-clause-merging g c = left_seen g.D.Disk _ _ _ _ _ _ c.self.view_is c.self.invariant
