use Rattle.silt_log_store.proofs.Exits.{empties_store}
use Rattle.silt_log_store.proofs.log_store.LogStore.prepare.Goals as goal

pub returns-clause-ok : goal.returns-clause-ok
returns-clause-ok g c = rw (← c.self.view_is) (empties_store _ (record { log = c.self.inside.log; table = c.self.inside.table; puts = c.self.inside.puts })
    _ c.in_ok-prepare.ensures.ok (rw (← c.self.view_is) at c.requires.empty) (rw (← c.self.view_is) at c.requires.puts))
