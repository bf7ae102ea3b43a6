use Rattle.std.proofs.Common.{◌∙◌}
use Rattle.silt_hasher.proofs.Ending.{ended}
use Rattle.silt_hasher.proofs.state.Sha1State.finalize.Goals as goal

pub returns : goal.returns
returns c = λ bytes has. c.hash_bytes.ensures ∙ ended c.args.self _ bytes has c.pad.ensures
