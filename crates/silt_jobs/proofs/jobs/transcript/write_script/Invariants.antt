use Rattle.silt_jobs.proofs.Common.{◌≡◌, ◌≤◌, take, ◌++◌, Appends, opening_text, marks_text, place_past, start}
use Rattle.std.specs.List.{slice_get}
use Rattle.silt_jobs.proofs.jobs.transcript.write_script.Given as goal

abbrev pub invariant-loop-mark : goal.invariant-loop-mark
invariant-loop-mark g l = record {
  place : l.place ≡ place_past start (take l.mark-index l.marks);
  life : l.place.life ≤ l.mark-index;
  reply : l.place.reply ≤ l.mark-index;
  written : Appends (g.W.Write.contents l.fn.writer) (g.W.Write.contents l.writer) (opening_text (slice_get l.lives 0) ++ marks_text l.lives start (take l.mark-index l.marks));
}
