use Rattle.std.proofs.Common.{sym, ap, length, ◌∙◌}
use Rattle.silt_gamma.proofs.Writing.{length_front}
use Rattle.silt_gamma.proofs.writer.BitWriter.len.Goals as goal

pub returns : goal.returns
returns c = sym (length_front _ _ c.self.invariant.within) ∙ ap length c.self.view_is
