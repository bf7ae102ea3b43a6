use Rattle.silt_shards.proofs.Common.{arith, weaker_leaves}
use Rattle.silt_shards.proofs.Marks.{closed_unmarked, commit_closed, stands_stays}
use Rattle.silt_shards.proofs.mark.close_mark.Goals as goal

pub returns-in_err-write_synced-clause-stands : goal.returns-in_err-write_synced-clause-stands
returns-in_err-write_synced-clause-stands g c = stands_stays 2048 1 _ _ c.write_synced.ensures.wrote.changes (omega arith) (omega arith)

pub returns-clause-closed : goal.returns-clause-closed
returns-clause-closed g c = commit_closed _ _ c.requires c.in_ok-write_synced.ensures.written c.in_ok-write_synced.ensures.rests

pub returns-clause-unmarked : goal.returns-clause-unmarked
returns-clause-unmarked g c = weaker_leaves (commit_closed _ _ c.requires c.in_ok-write_synced.ensures.written c.in_ok-write_synced.ensures.rests) closed_unmarked

pub returns-clause-stands : goal.returns-clause-stands
returns-clause-stands g c = stands_stays 2048 1 _ _ c.write_synced.ensures.wrote.changes (omega arith) (omega arith)
