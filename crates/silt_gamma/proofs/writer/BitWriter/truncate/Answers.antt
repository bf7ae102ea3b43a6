use Rattle.std.proofs.Common.{◌≡◌, ◌+◌, ◌-◌, ◌*◌, ◌/◌, ◌%◌, ◌≤◌, length, take, sym, ap, ◌∙◌, arith}
use Rattle.std.proofs.lemmas.List.{take-take}
use Rattle.silt_gamma.specs.Bits.{bits_of}
use Rattle.silt_gamma.specs.declared.writer.BitWriter.TheInside.{Inside}
use Rattle.silt_gamma.proofs.Cutting.{cut_partly, cut_whole}
use Rattle.silt_gamma.proofs.Writing.{length_front}
use Rattle.silt_gamma.proofs.writer.BitWriter.truncate.Goals as goal
use Rattle.silt_gamma.proofs.writer.BitWriter.truncate.Goals.{then-used-gt0, else-used-gt0}

pub invariant_of-self : goal.invariant_of-self
invariant_of-self c =
    let len = c.args.len in
    let bytes = c.self.inside.bytes.items in
    let count = sym (length_front _ _ c.self.invariant.within) ∙ ap length c.self.view_is in
    let within : len ≤ 8 * length bytes = omega (arith, c.self.invariant.within, c.requires, count) in
    elim c.if-used-gt0.branch [
      | then-used-gt0 w ↦
          let q : c.div_ceil.result ≡ len / 8 + 1 = omega (arith, c.div_ceil.ensures, w.if-used-gt0.true) in
          let kept = c.truncate.ensures.items ∙ ap (λ n. take n bytes) q in
          let is = ap (λ (s : Inside). s.bytes.items) w.self-inside-is in
          let holds = cut_partly len (len / 8) (len % 8) (8 - len % 8) w.index.result.now bytes _ _ within (omega arith) w.if-used-gt0.true (omega arith) kept w.index.ensures is in
          record { filled = holds.filled; within = holds.within }
      | else-used-gt0 w ↦
          let is = ap (λ (s : Inside). s.bytes.items) w.self-inside-is ∙ c.truncate.ensures.items in
          let holds = cut_whole len c.div_ceil.result bytes _ within (omega (arith, c.div_ceil.ensures, w.if-used-gt0.false)) is in
          record { filled = holds.filled; within = holds.within }
    ]

pub returns : goal.returns
returns c =
    let len = c.args.len in
    let bytes = c.self.inside.bytes.items in
    let count = sym (length_front _ _ c.self.invariant.within) ∙ ap length c.self.view_is in
    let within : len ≤ 8 * length bytes = omega (arith, c.self.invariant.within, c.requires, count) in
    let same : take len (bits_of bytes) ≡ take len c.args.self.now = sym (take-take len c.self.inside.len (bits_of bytes) (omega (arith, c.requires, count))) ∙ ap (take len) c.self.view_is in
    elim c.if-used-gt0.branch [
      | then-used-gt0 w ↦
          let q : c.div_ceil.result ≡ len / 8 + 1 = omega (arith, c.div_ceil.ensures, w.if-used-gt0.true) in
          let kept = c.truncate.ensures.items ∙ ap (λ n. take n bytes) q in
          let is = ap (λ (s : Inside). s.bytes.items) w.self-inside-is in
          (cut_partly len (len / 8) (len % 8) (8 - len % 8) w.index.result.now bytes _ _ within (omega arith) w.if-used-gt0.true (omega arith) kept w.index.ensures is).view ∙ same
      | else-used-gt0 w ↦
          let is = ap (λ (s : Inside). s.bytes.items) w.self-inside-is ∙ c.truncate.ensures.items in
          (cut_whole len c.div_ceil.result bytes _ within (omega (arith, c.div_ceil.ensures, w.if-used-gt0.false)) is).view ∙ same
    ]
