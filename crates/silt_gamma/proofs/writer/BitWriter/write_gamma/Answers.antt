use Rattle.std.proofs.Common.{◌+◌, ◌*◌, ap, ◌∙◌, arith}
use Rattle.silt_gamma.specs.Bits.{low_bits}
use Rattle.silt_gamma.proofs.Reading.{code_of_exponent}
use Rattle.silt_gamma.proofs.writer.BitWriter.write_gamma.Goals as goal

pub write_bits-requires-clause-small : goal.write_bits-requires-clause-small
write_bits-requires-clause-small c =
    let code = code_of_exponent c.ilog2-zeros.result c.args.n c.requires (omega (arith, c.ranges.n)) c.ilog2-zeros.ensures.power_le c.ilog2-zeros.ensures.next_power_gt in
    let fits = code.0 in
    omega (arith, c.from.ensures)

pub returns-clause-ok : goal.returns-clause-ok
returns-clause-ok c =
    let code = code_of_exponent c.ilog2-zeros.result c.args.n c.requires (omega (arith, c.ranges.n)) c.ilog2-zeros.ensures.power_le c.ilog2-zeros.ensures.next_power_gt in
    let same = ap (low_bits (2 * c.ilog2-zeros.result + 1)) c.from.ensures ∙ code.1 in
    rw (← same) c.write_bits.ensures.ok
