use Rattle.silt_store_set.proofs.Digests.{own_said, shown_is_base}
use Rattle.silt_store_set.proofs.store_core.Core.named.Goals as goal

pub returns-clause-digests : goal.returns-clause-digests
returns-clause-digests g c =
    rw (← c.self.view_is, c.own_digests.ensures) (λ working honest. own_said (g.D.Disk.content c.self.inside.disk) c.self.inside.engine (c.self.invariant.stands working) honest)

pub returns-clause-map : goal.returns-clause-map
returns-clause-map g c =
    let content = g.D.Disk.content c.self.inside.disk in
    rw (← c.self.view_is) (λ working honest. cc (shown_is_base content c.self.inside.engine (c.self.invariant.stands working) honest))
