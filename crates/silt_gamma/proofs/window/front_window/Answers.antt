use Rattle.std.proofs.Common.{ap, ◌∙◌, ◌/◌, ◌*◌, ◌%◌, ◌^◌, ◌-◌, arith}
use Rattle.std.specs.Int.RustNames.{bit_or}
use Rattle.silt_gamma.specs.Bits.{low_bits}
use Rattle.silt_gamma.proofs.Words.{front_window_is}
use Rattle.silt_gamma.proofs.window.front_window.Goals as goal

pub returns : goal.returns
returns c =
    let s = c.args.skipped in
    let word = c.from_be_bytes-word.result in
    ap (λ x. low_bits 64 (bit_or (word * 2 ^ s % 2 ^ 64) (x / 2 ^ (8 - s)))) c.from.ensures
    ∙ front_window_is s word c.args.bytes.now c.requires.enough c.requires.within (λ i. let h = c.type_inv.bytes i in omega arith) c.from_be_bytes-word.ensures
