use Rattle.std.proofs.Common.{ℕ, ◌-◌, ◌%◌, refl, ap, ◌∙◌}
use Rattle.silt_hasher.specs.States.{taken_of}
use Rattle.silt_hasher.specs.Taking.{taken_after}
use Rattle.silt_hasher.proofs.Ending.{end_written}
use Rattle.silt_hasher.proofs.state.Sha1State.pad.Goals as goal

pub returns : goal.returns
returns c =
    let zeros = ap (λ (used : ℕ). (119 - used) % 64) c.used.ensures in
    let written = end_written c.args.self.now.total _ _ _ _ _ _ zeros refl refl refl (c.copy_from_slice.ensures.after ∙ c.to_be_bytes.ensures) in
    c.update.ensures ∙ ap (taken_after (taken_of c.args.self.now)) written
