use Rattle.silt_log_store.proofs.Common.{rules}
use Rattle.silt_disk.proofs.Wrote.{wrote_refused}
use Rattle.silt_log_store.proofs.log_store.LogStore.take.Goals as goal

pub returns-in-Ok-None-clause-wrote : goal.returns-in-Ok-None-clause-wrote
returns-in-Ok-None-clause-wrote g c = wrote_refused _ _ _ _ _ _ (search rules)

pub returns-in-Err-clause-wrote : goal.returns-in-Err-clause-wrote
returns-in-Err-clause-wrote g c = wrote_refused _ _ _ _ _ _ (search rules)
