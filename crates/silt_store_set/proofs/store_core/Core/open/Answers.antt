use Rattle.silt_store_set.proofs.Common.{subst, sym, held_stores, EngineState, Opens}
use Rattle.silt_store_set.proofs.Calls.{seen}
use Rattle.silt_store_set.proofs.Openings.{opened}
use Rattle.silt_store_set.proofs.store_core.Core.open.Goals as goal

pub returns-in-Ok-clause-ok : goal.returns-in-Ok-clause-ok
returns-in-Ok-clause-ok g c =
    subst (λ (s : EngineState). Opens g.D.Disk (g.D.Disk.content c.args.disk) (seen g.D.Disk c.in-Ok.opened.disk s 0)) (sym c.new-engine.ensures)
    (opened g.D.Disk (g.D.Disk.content c.args.disk) c.in-Ok.opened.disk (held_stores c.in-Ok.opened.held) c.in-Ok.ensures.ok)
