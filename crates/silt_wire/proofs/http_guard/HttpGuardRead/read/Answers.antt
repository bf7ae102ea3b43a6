use Rattle.silt_wire.proofs.Common.{◌≤◌, ◌∙◌, arith, sym}
use Rattle.silt_wire.proofs.Http.{given_end, hands_read, refused_end, refused_reads}
use Rattle.silt_wire.proofs.http_guard.HttpGuardRead.read.Goals as goal

pub returns-then-is_turned_away-clause-bytes : goal.returns-then-is_turned_away-clause-bytes
returns-then-is_turned_away-clause-bytes g c =
    let is = sym c.is_turned_away.ensures ∙ c.if-is_turned_away.true in
    let known = g.R.Read.remaining c.args.self.now.inner in
    (refused_reads c.args.self.now.line known is, λ zero room. refused_end c.args.self.now.line known is)

pub returns-clause-bytes : goal.returns-clause-bytes
returns-clause-bytes g c =
    let count = c.in_ok-count.count in
    let line = c.look_through-line.result.0 in
    let given = c.look_through-line.result.1 in
    let within : given ≤ count = omega (arith, c.look_through-line.ensures.count, c.in_ok-count.ensures.bound.1) in (
      hands_read c.args.self.now.line line _ _ c.read.new.buf count given within c.in_ok-count.ensures.bytes.0 c.look_through-line.ensures.given,
      given_end line _ c.read.new.buf count given c.in_ok-count.ensures.bound.0 c.in_ok-count.ensures.bytes.1 c.look_through-line.ensures.none,
    )
