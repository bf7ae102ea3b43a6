use Rattle.silt_resp.proofs.Common.{◌≡◌, ◌≤◌, ◌++◌, ◌∙◌, ap, arith, length, rules, take, take_all, shown_byte}
use Rattle.std.proofs.Common.{map}
use Rattle.silt_resp.proofs.Doing.{shown_part}
use Rattle.silt_resp.proofs.asked_for.push_name.Goals as goal

pub returns : goal.returns
returns c =
    let shown = c.split_at.result.0.now in
    let past : length shown ≤ c.loop-byte.byte-index = omega arith in
    let whole : shown ≡ take 32 c.args.name.now = shown_part c.args.name.now shown c.min.result (length c.args.name.now) c.split_at.ensures.front (search rules) (search rules) in
    c.loop-byte.invariant ∙ ap (λ l. c.args.out.now.items ++ map shown_byte l) (take_all c.loop-byte.byte-index shown past ∙ whole)
