use Rattle.silt_log_store.proofs.Common.{common_steps, arith}
use Rattle.silt_log_store.proofs.Exits.{find_some, find_none}
use Rattle.silt_log_store.proofs.log_store.LogStore.get_whole.Goals as goal

pub returns-in_default-clause-last : goal.returns-in_default-clause-last
returns-in_default-clause-last g c =
    rw (← c.self.view_is) (λ honest index. find_none (g.D.Disk.content c.args.disk.now) _ c.args.key.now.0 c.self.invariant honest
    index (rw c.in_default.is at (c.in_ok-its_row.ensures.first honest (index.known honest))))

pub returns-in-Put-clause-last : goal.returns-in-Put-clause-last
returns-in-Put-clause-last g c = grind (arith, common_steps, c.self.view_is, find_some, g.D.Disk.content, c.in_ok-its_row.ensures.first)

pub returns-in-Delete-clause-last : goal.returns-in-Delete-clause-last
returns-in-Delete-clause-last g c = grind (arith, common_steps, c.self.view_is, find_some, g.D.Disk.content, c.in_ok-its_row.ensures.first)
