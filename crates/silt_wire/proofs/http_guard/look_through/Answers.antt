use Rattle.silt_wire.proofs.Common.{◌∙◌, ap, sym, is_turned_away}
use Rattle.silt_wire.proofs.Http.{hands_last, hands_passed}
use Rattle.silt_wire.proofs.http_guard.look_through.Goals as goal

pub returns-then-is_passed-clause-given : goal.returns-then-is_passed-clause-given
returns-then-is_passed-clause-given c = hands_passed c.args.line c.args.bytes.now (sym c.is_passed.ensures ∙ c.if-is_passed.true)

pub returns-then-is_turned_away-clause-given : goal.returns-then-is_turned_away-clause-given
returns-then-is_turned_away-clause-given c =
    let refused = ap is_turned_away (sym c.after-line.ensures) ∙ sym c.is_turned_away.ensures ∙ c.if-is_turned_away.true in
    rw c.after-line.ensures (hands_last c.args.line c.loop-at.line c.args.bytes.now c.loop-at.at c.loop-at-test.true refused c.loop-at.invariant)
