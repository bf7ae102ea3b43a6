use Rattle.silt_store_set.proofs.Common.{is_work}
use Rattle.silt_store_set.proofs.Merges.{work_same}
use Rattle.silt_store_set.proofs.store_core.Core.wants_merge.Goals as goal

pub returns-then-not-self : goal.returns-then-not-self
returns-then-not-self g c =
    let working = c.if-not-self.true in
    rw (← c.self.view_is, working) (cc (c.is_work.ensures, c.merge_turn.ensures, work_same g.D.Disk c.self.inside.disk c.self.inside.engine c.self.inside.count (c.self.invariant.stands working)))
