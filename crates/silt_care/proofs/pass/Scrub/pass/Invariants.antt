use Rattle.std.proofs.Common.{◌≡◌, false}
use Rattle.std.specs.Prelude.{vec_len}
use Rattle.silt_care.specs.Scrubs.{Passes}
use Rattle.silt_care.proofs.Passing.{AreFew}
use Rattle.silt_care.proofs.pass.Scrub.pass.Given as goal

-- the first parts got their verdicts, and nothing ended the pass
abbrev pub invariant-loop-place : goal.invariant-loop-place
invariant-loop-place g l = record {
  passes : Passes g.V.View g.F.Finds l.self.view.now l.geometry l.initial.finds l.place l.scrubbed l.finds;
  few : AreFew l.place l.scrubbed;
  goes_on : l.scrubbed.has_ended ≡ false;
  room : vec_len l.room ≡ 65536;
}
