use Rattle.silt_jobs.proofs.Common.{arith}
use Rattle.silt_wire.proofs.Answering.{rest_after-part}
use Rattle.silt_jobs.proofs.Readings.{TakesBytes-part}
use Rattle.silt_jobs.proofs.jobs.script_lines.Reading.take_bytes.Goals as goal

pub loop-done-preserved : goal.loop-done-preserved
loop-done-preserved c =
    let done = c.loop-done.done in
    let count = c.in_ok-done.field-0 in
    let bytes = c.args.bytes.now in
    let bound = c.in_ok-done.ensures.count.1 in
    let rest = c.split_at.ensures.back_len in
    let before = c.loop-done.invariant in
    record {
      within = omega arith;
      holds = λ p h. rw (rest_after-part p bytes done count) (rw c.split_at.ensures.back at c.in_ok-done.ensures.holds _ (before.holds p h));
      takes = λ p h. TakesBytes-part c.args.value_len p _ _ _ bytes done count (before.takes p h) (rw c.split_at.ensures.back at c.in_ok-done.ensures.takes _ (before.holds p h));
      fits = λ h. c.in_ok-done.ensures.fits (before.fits h);
    }
