use Rattle.silt_log_store.proofs.Common.{common_steps, arith}
use Rattle.silt_log_store.proofs.Exits.{find_some, find_none}
use Rattle.silt_log_store.proofs.log_store.LogStore.find.Goals as goal

pub returns-in-Some-clause-last : goal.returns-in-Some-clause-last
returns-in-Some-clause-last g c = grind (arith, common_steps, c.self.view_is, find_some, g.D.Disk.content, c.in_ok-row.ensures.first)

pub returns-in-None-clause-last : goal.returns-in-None-clause-last
returns-in-None-clause-last g c =
    rw (← c.self.view_is) (λ honest index. find_none (g.D.Disk.content c.args.disk.now) _ c.args.key.now.0 c.self.invariant honest
    index (rw c.in-None.is at (c.in_ok-row.ensures.first honest (index.known honest))))
