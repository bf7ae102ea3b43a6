use Rattle.std.proofs.Common.{sym, ap, length, ◌∙◌}
use Rattle.silt_gamma.proofs.Reading.{length_from}
use Rattle.silt_gamma.proofs.reader.BitReader.len.Goals as goal

pub returns : goal.returns
returns c = sym (length_from _ _ _ _ _ c.self.invariant) ∙ ap length c.self.view_is
