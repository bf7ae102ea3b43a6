use Rattle.silt_log_store.proofs.Common.{rules, placed_below}
use Rattle.silt_log_store.proofs.Replacing.{replaced_below}
use Rattle.silt_log_store.proofs.placement.enter.Goals as goal

pub returns-in-Standing-clause-below : goal.returns-in-Standing-clause-below
returns-in-Standing-clause-below c = search (rules, replaced_below)

pub returns-in-New-clause-below : goal.returns-in-New-clause-below
returns-in-New-clause-below c = search (rules, placed_below)
