use Rattle.silt_jobs.proofs.Common.{opening_text}
use Rattle.std.specs.List.{slice_get}
use Rattle.silt_jobs.proofs.Texts.{place-next, written-more, place_after-within}
use Rattle.silt_jobs.proofs.jobs.transcript.write_script.Goals as goal

pub loop-mark-preserved : goal.loop-mark-preserved
loop-mark-preserved g c =
    let at = c.loop-mark.mark-index in
    let lt = c.loop-mark-test.true in
    let i = c.loop-mark.invariant in
    let within = place_after-within c.loop-mark.place _ at i.life i.reply in
    record {
      place = place-next c.args.marks.now at _ c.loop-mark.place c.after-place.result lt c.after-place.ensures i.place;
      life = rw c.after-place.ensures within.0;
      reply = rw c.after-place.ensures within.1;
      written = written-more c.args.lives.now c.args.marks.now at _ c.loop-mark.place (opening_text (slice_get c.args.lives.now 0)) _ _ _ lt i.place i.written c.in_ok-write_mark.ensures;
    }
