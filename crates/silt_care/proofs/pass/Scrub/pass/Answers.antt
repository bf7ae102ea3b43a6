use Rattle.std.proofs.Common.{◌+◌, ap, subst, sym}
use Rattle.silt_care.specs.declared.pass.Scrubbed.{Scrubbed}
use Rattle.silt_care.proofs.Parts.{is_part}
use Rattle.silt_care.proofs.Passing.{AreFew, few_more, never_both, none_yet, passes_more, passes_none}
use Rattle.silt_care.proofs.pass.Scrub.pass.Goals as goal

pub loop-place-init : goal.loop-place-init
loop-place-init g c =
    let is = c.nothing-scrubbed.ensures in
    record {
      passes = passes_none _ _ _ _ _ _ is;
      few = rw is none_yet;
      goes_on = ap (λ (s : Scrubbed). s.has_ended) is;
      room = c.in_ok-room.ensures.len;
    }

pub look_at-verdict-requires-clause-part : goal.look_at-verdict-requires-clause-part
look_at-verdict-requires-clause-part g c = is_part c.geometry-geometry.result c.loop-place.place c.at-part.result c.at-part.ensures

pub returns-then-scrubbed-clause-ok : goal.returns-then-scrubbed-clause-ok
returns-then-scrubbed-clause-ok g c =
    let i = c.loop-place.invariant in (
      c.geometry-geometry.result,
      c.geometry-geometry.ensures,
      record {
        parts = c.loop-place.place + 1;
        passes = passes_more _ _ _ _ _ _ _ _ _ _ _ c.look_at-verdict.result c.at-part.ensures i.passes c.look_at-verdict.ensures.verdict c.hear.ensures c.add.ensures;
        whole = λ not. absurd (never_both c.add.new.self.has_ended c.if-scrubbed.true not);
      },
    )

pub loop-place-preserved : goal.loop-place-preserved
loop-place-preserved g c =
    let i = c.loop-place.invariant in
    record {
      passes = passes_more _ _ _ _ _ _ _ _ _ _ _ c.look_at-verdict.result c.at-part.ensures i.passes c.look_at-verdict.ensures.verdict c.hear.ensures c.add.ensures;
      few = rw c.add.ensures (few_more _ _ c.at-part.result c.look_at-verdict.result i.few c.look_at-verdict.ensures.most);
      goes_on = c.if-scrubbed.false;
      room = i.room;
    }
