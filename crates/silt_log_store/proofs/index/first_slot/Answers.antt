use Rattle.silt_log_store.proofs.Common.{arith, rules}
use Rattle.silt_log_store.proofs.Searching.{find_first, find_nothing}
use Rattle.silt_log_store.proofs.index.first_slot.Goals as goal

pub returns-then-eq : goal.returns-then-eq
returns-then-eq c = search (rules, arith, find_first)

pub returns : goal.returns
returns c = search (rules, arith, find_nothing, c.loop-candidate.invariant)
