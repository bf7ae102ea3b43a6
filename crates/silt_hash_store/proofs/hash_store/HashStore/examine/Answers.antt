use Rattle.silt_hash_store.proofs.hash_store.HashStore.examine.Goals as goal

pub returns-in-Row-clause-err : goal.returns-in-Row-clause-err
returns-in-Row-clause-err g c = rw c.in-Row.is c.examine_row.ensures.err
