use Rattle.std.proofs.Common.{◌∙◌}
use Rattle.clap.specs.Words.{found_of}
use Rattle.silt_words.proofs.Matched.{first_is}
use Rattle.silt_words.proofs.words.text_at.Goals as goal

pub returns : goal.returns
returns c = c.get_str.ensures ∙ first_is (found_of c.args.matches.now) c.args.name.now
