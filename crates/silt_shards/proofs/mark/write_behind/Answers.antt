use Rattle.silt_shards.proofs.Common.{arith, wrote_err, wrote_ok, wrote_then, wrote_wider}
use Rattle.silt_shards.proofs.Marks.{mark_behind, mark_committed, mark_settled}
use Rattle.silt_shards.proofs.mark.write_behind.Goals as goal

pub returns-in_err-write_synced-clause-stopped : goal.returns-in_err-write_synced-clause-stopped
returns-in_err-write_synced-clause-stopped g c = mark_behind _ 2049 _ _ _ (omega arith) c.write_synced.ensures.wrote.changes c.requires.closed

pub returns-in_err-write_synced-2-clause-stopped : goal.returns-in_err-write_synced-2-clause-stopped
returns-in_err-write_synced-2-clause-stopped g c =
    mark_committed _ _ _ _ c.requires.mark c.requires.size (rw c.mark_bytes-bytes.ensures at c.in_ok-write_synced.ensures.written)
    c.in_ok-write_synced.ensures.rests c.write_synced.ensures.wrote.size c.write_synced-2.ensures.wrote.changes

pub returns-clause-marked : goal.returns-clause-marked
returns-clause-marked g c =
    mark_settled _ _ _ _ c.requires.mark c.requires.size (rw c.mark_bytes-bytes.ensures at c.in_ok-write_synced.ensures.written) c.in_ok-write_synced.ensures.rests
    c.write_synced.ensures.wrote.size c.in_ok-write_synced-2.ensures.written c.write_synced-2.ensures.wrote.changes c.in_ok-write_synced-2.ensures.rests

pub returns-clause-stopped : goal.returns-clause-stopped
returns-clause-stopped g c =
    mark_committed _ _ _ _ c.requires.mark c.requires.size (rw c.mark_bytes-bytes.ensures at c.in_ok-write_synced.ensures.written)
    c.in_ok-write_synced.ensures.rests c.write_synced.ensures.wrote.size c.write_synced-2.ensures.wrote.changes

pub returns-in_err-write_synced-clause-wrote : goal.returns-in_err-write_synced-clause-wrote
returns-in_err-write_synced-clause-wrote g c = wrote_err c.in_err-write_synced.was c.from_residual.ensures.1 (omega arith) (omega arith)
    (wrote_wider 2048 37 (omega arith) (omega arith) c.write_synced.ensures.wrote)

pub returns-in_err-write_synced-2-clause-wrote : goal.returns-in_err-write_synced-2-clause-wrote
returns-in_err-write_synced-2-clause-wrote g c =
    let bytes = wrote_wider 2048 37 (omega arith) (omega arith) c.write_synced.ensures.wrote in
    let commit = wrote_wider 2048 37 (omega arith) (omega arith) c.write_synced-2.ensures.wrote in
    wrote_err c.in_err-write_synced-2.was c.from_residual-in_err-write_synced-2.ensures.1 (omega arith) (omega arith) (wrote_then c.in_ok-write_synced.was bytes commit)

pub returns-clause-wrote : goal.returns-clause-wrote
returns-clause-wrote g c =
    let bytes = wrote_wider 2048 37 (omega arith) (omega arith) c.write_synced.ensures.wrote in
    let commit = wrote_wider 2048 37 (omega arith) (omega arith) c.write_synced-2.ensures.wrote in
    wrote_ok c.in_ok-write_synced-2.was (wrote_then c.in_ok-write_synced.was bytes commit)
