use Rattle.silt_shards.proofs.Common.{arith, wrote_err, wrote_ok, wrote_then, wrote_wider}
use Rattle.silt_shards.proofs.Marks.{left_but_for_mark, left_marked_or_not, stands_stays}
use Rattle.silt_shards.proofs.mark.write_mark.Goals as goal

pub returns-in_err-close_mark-clause-stopped : goal.returns-in_err-close_mark-clause-stopped
returns-in_err-close_mark-clause-stopped g c = left_but_for_mark _ _ _ c.close_mark.ensures.wrote.changes

pub returns-in_err-write_behind-clause-stopped : goal.returns-in_err-write_behind-clause-stopped
returns-in_err-write_behind-clause-stopped g c = left_marked_or_not _ _ _ c.write_behind.ensures.stopped

pub returns-in_err-write_behind-clause-stands : goal.returns-in_err-write_behind-clause-stands
returns-in_err-write_behind-clause-stands g c = λ shape map stands.
    stands_stays 2048 37 _ _ c.write_behind.ensures.wrote.changes (omega arith) (omega arith) shape map (c.close_mark.ensures.stands shape map stands)

pub returns-clause-stopped : goal.returns-clause-stopped
returns-clause-stopped g c = left_marked_or_not _ _ _ c.write_behind.ensures.stopped

pub returns-clause-stands : goal.returns-clause-stands
returns-clause-stands g c = λ shape map stands.
    stands_stays 2048 37 _ _ c.write_behind.ensures.wrote.changes (omega arith) (omega arith) shape map (c.close_mark.ensures.stands shape map stands)

pub returns-in_err-close_mark-clause-wrote : goal.returns-in_err-close_mark-clause-wrote
returns-in_err-close_mark-clause-wrote g c = wrote_err c.in_err-close_mark.was c.from_residual.ensures.1 (omega arith) (omega arith)
    (wrote_wider 2048 37 (omega arith) (omega arith) c.close_mark.ensures.wrote)

pub returns-in_err-write_behind-clause-wrote : goal.returns-in_err-write_behind-clause-wrote
returns-in_err-write_behind-clause-wrote g c =
    let closed = wrote_wider 2048 37 (omega arith) (omega arith) c.close_mark.ensures.wrote in
    wrote_err c.in_err-write_behind.was c.from_residual-in_err-write_behind.ensures.1 (omega arith) (omega arith) (wrote_then c.in_ok-close_mark.was closed c.write_behind.ensures.wrote)

pub returns-clause-wrote : goal.returns-clause-wrote
returns-clause-wrote g c =
    let closed = wrote_wider 2048 37 (omega arith) (omega arith) c.close_mark.ensures.wrote in
    wrote_ok c.in_ok-write_behind.was (wrote_then c.in_ok-close_mark.was closed c.write_behind.ensures.wrote)
