use Rattle.silt_log_store.proofs.Common.{arith, rules}
use Rattle.silt_log_store.proofs.Exits.{find_no_candidate}
use Rattle.silt_log_store.proofs.log_store.LogStore.get.Goals as goal

pub returns-then-not-has_candidate-clause-last : goal.returns-then-not-has_candidate-clause-last
returns-then-not-has_candidate-clause-last g c = search (rules, arith, ← c.self.view_is, find_no_candidate, g.D.Disk.content)
