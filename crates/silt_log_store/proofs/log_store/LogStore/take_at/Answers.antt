use Rattle.silt_log_store.proofs.Common.{◌+◌, ap, LogStoreState, IsLogStore}
use Rattle.silt_log_store.proofs.Exits.{takes_row}
use Rattle.silt_log_store.proofs.log_store.LogStore.take_at.Goals as goal

pub returns-clause-store : goal.returns-clause-store
returns-clause-store g c =
    let store : LogStoreState = record { log = c.self.inside.log; table = c.self.inside.table; puts = c.self.inside.puts } in
    let is : IsLogStore (g.D.Disk.content c.args.disk.now) store = rw (← c.self.view_is) at c.requires.store in
    let at = rw (← c.self.view_is) at c.requires.placing in
    let placed = rw c.len-place.ensures.value at c.enter.ensures.entered in
    rw (← c.self.view_is) (takes_row _ _ store _ _ _ c.args.kind c.args.key.now c.args.value.now c.args.placing.now
    c.append.ensures.wrote.changes.honest is.index at (ap (λ n. c.self.inside.puts + n) c.puts.ensures.value) placed c.in_ok-append.ensures.log)
