use Rattle.std.proofs.Common.{sym, ap, Some, inl, inr, arith}
use Rattle.silt_gamma.proofs.Gamma.{prefix_law}
use Rattle.silt_gamma.proofs.Reading.{reads_code, no_code, window_after}
use Rattle.silt_gamma.proofs.reader.BitReader.read_gamma.Goals as goal
use Rattle.silt_gamma.proofs.reader.BitReader.read_gamma.Goals.{then-width-ready-via-then-width-ready, then-width-ready-via-else-width-ready+then-self-width}

pub returns-then-width-ready-clause-read : goal.returns-then-width-ready-clause-read
returns-then-width-ready-clause-read c = λ n rest begins.
    let wide = c.wide_window-window.ensures.wide in
    let same = c.wide_window-window.ensures.same _ c.self.invariant in
    let width = c.code_width-width.ensures in
    elim c.then-width-ready.branch [
      | then-width-ready-via-then-width-ready w ↦
          absurd (no_code _ _ _ _ _ c.code_width-width.result n _ rest (record { is = same; view = c.self.view_is }) width (rw (← width) at wide) (inl w.if-width-ready.true) begins)
      | then-width-ready-via-else-width-ready+then-self-width w ↦
          absurd (no_code _ _ _ _ _ c.code_width-width.result n _ rest (record { is = same; view = c.self.view_is }) width (rw (← width) at wide) (inr w.if-self-width.true) begins)
    ]

pub overflow_cast-result : goal.overflow_cast-result
overflow_cast-result c =
    let same = c.wide_window-window.ensures.same _ c.self.invariant in
    let fits = (reads_code _ _ _ _ _ _ _ (record { is = same; view = c.self.view_is }) c.code_width-width.ensures c.if-width-ready.false c.if-self-width.false).0 in
    omega arith

pub invariant_of-self : goal.invariant_of-self
invariant_of-self c = window_after _ _ _ _ _ _ (c.wide_window-window.ensures.same _ c.self.invariant) c.if-width-ready.false c.if-self-width.false

pub returns-clause-read : goal.returns-clause-read
returns-clause-read c = λ n rest begins.
    let same = c.wide_window-window.ensures.same _ c.self.invariant in
    let found = (reads_code _ _ _ _ _ _ _ (record { is = same; view = c.self.view_is }) c.code_width-width.ensures c.if-width-ready.false c.if-self-width.false).1 in
    let one = prefix_law _ n _ rest _ begins found in
    (ap Some (sym one.0), sym one.1)

pub returns-clause-found : goal.returns-clause-found
returns-clause-found c =
    let same = c.wide_window-window.ensures.same _ c.self.invariant in
    (reads_code _ _ _ _ _ _ _ (record { is = same; view = c.self.view_is }) c.code_width-width.ensures c.if-width-ready.false c.if-self-width.false).1
