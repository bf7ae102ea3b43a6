use Rattle.silt_resp.proofs.Common.{◌<◌, ◌∙◌, arith, false, length, sym, true, is_section}
use Rattle.silt_resp.proofs.Sections.{any_step}
use Rattle.silt_resp.proofs.info.has_section.Goals as goal

pub returns-then-is_section : goal.returns-then-is_section
returns-then-is_section c =
    let within : c.loop-index.index < length c.args.args.now = omega (arith, c.loop-index-test.true, c.len-index-end.ensures) in
    sym (any_step (is_section c.args.name.now) c.args.args.now true c.loop-index.index within (λ word found. sym (c.is_section.ensures word found) ∙ c.if-is_section.true) c.loop-index.invariant)

pub loop-index-preserved : goal.loop-index-preserved
loop-index-preserved c =
    let within : c.loop-index.index < length c.args.args.now = omega (arith, c.loop-index-test.true, c.len-index-end.ensures) in
    any_step (is_section c.args.name.now) c.args.args.now false c.loop-index.index within (λ word found. sym (c.is_section.ensures word found) ∙ c.if-is_section.false) c.loop-index.invariant
