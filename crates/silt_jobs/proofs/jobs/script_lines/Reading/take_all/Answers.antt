use Rattle.silt_jobs.proofs.Common.{[], ◌++◌, take, rest_after-append, Consumes-append, Consumes-keeps}
use Rattle.silt_jobs.proofs.Readings.{TakesBytes-append}
use Rattle.silt_jobs.proofs.jobs.script_lines.Reading.take_all.Goals.{in-Ok+in_ok-take_bytes-in-Ok, in-Err}
use Rattle.silt_jobs.proofs.jobs.script_lines.Reading.take_all.Goals as goal

pub loop-preserved : goal.loop-preserved
loop-preserved g c =
    let i = c.loop.invariant.so_far in
    elim c.match-read.branch [
      | in-Ok+in_ok-take_bytes-in-Ok w ↦
          let more = take w.in-Ok.count c.read.new.buf in
          let holds = rw (← rest_after-append [] i.0 more) at (w.in_ok-take_bytes-in-Ok.ensures.holds _ i.2) in
          let takes = TakesBytes-append c.args.value_len [] _ _ _ i.0 more i.3 (w.in_ok-take_bytes-in-Ok.ensures.takes _ i.2) in
          rw (w.self-is, w.pending-is) (record {
            so_far = (i.0 ++ more, Consumes-append _ _ _ _ _ i.1 w.in-Ok.ensures.bytes.0, holds, takes);
            fits = λ h. w.in_ok-take_bytes-in-Ok.ensures.fits (c.loop.invariant.fits h);
          })
      | in-Err w ↦ rw (w.self-is, w.pending-is) (record { so_far = (i.0, Consumes-keeps _ _ _ _ i.1 w.in-Err.ensures.bytes, i.2, i.3); fits = c.loop.invariant.fits })
    ]
