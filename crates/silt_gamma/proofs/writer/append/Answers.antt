use Rattle.std.proofs.Common.{◌+◌, ◌-◌, ◌/◌, ◌%◌, ◌^◌, get_or, refl, ap, ◌∙◌, arith}
use Rattle.std.proofs.Math.ListN.{set}
use Rattle.std.specs.Int.RustNames.{bit_or}
use Rattle.silt_gamma.proofs.Writing.{append_whole, append_partly, high_bits_fit}
use Rattle.silt_gamma.proofs.writer.append.Goals as goal

pub returns-then-used-eq0-clause-ok : goal.returns-then-used-eq0-clause-ok
returns-then-used-eq0-clause-ok c =
    append_whole c.args.width c.args.word c.args.len _ _ _ _ c.requires.filled.filled c.requires.filled.within c.if-used-eq0.true c.requires.word c.requires.alone
    c.to_be_bytes-more.ensures (omega (arith, c.div_ceil.ensures)) (omega (arith, c.div_ceil.ensures)) c.in_ok-extend_from_slice.ensures.items

pub overflow_cast-word : goal.overflow_cast-word
overflow_cast-word c =
    let fits = high_bits_fit (c.args.len % 8) c.args.word (omega arith) (omega (arith, c.ranges.word)) in
    omega arith

pub returns-clause-ok : goal.returns-clause-ok
returns-clause-ok c =
    let q = c.args.len / 8 in
    let b = c.index_mut.result.now in
    let items = c.in_ok-extend_from_slice-2.ensures.items in
    append_partly c.args.width c.args.word c.args.len ((c.args.len % 8 + c.args.width - 1) / 8) b _ _ _ c.requires.filled.filled
    c.requires.filled.within (omega arith) c.requires.some c.requires.word (omega (arith, c.ranges.word)) c.requires.alone
    c.to_be_bytes-more-2.ensures refl (c.index_mut.ensures.value ∙ ap (λ xs. get_or xs q b) items) (ap (λ xs. set xs q (bit_or b (c.args.word / 2 ^ (56 + c.args.len % 8)))) items)
