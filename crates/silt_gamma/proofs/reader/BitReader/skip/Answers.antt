use Rattle.std.proofs.Common.{ap, length, arith}
use Rattle.silt_gamma.proofs.Reading.{left_after, length_from}
use Rattle.silt_gamma.proofs.reader.BitReader.skip.Goals as goal

pub returns : goal.returns
returns c =
    let size = length_from _ _ _ _ _ c.self.invariant in
    let same = ap length c.self.view_is in
    left_after _ _ _ _ _ c.args.count _ (record { is = c.self.invariant; view = c.self.view_is }) (omega arith)
