use Rattle.std.proofs.Common.{◌∙◌, codes}
use Rattle.clap.specs.Words.{found_of}
use Rattle.silt_words.proofs.Matched.{first_is}
use Rattle.silt_words.proofs.words.file_of.Goals as goal

pub returns : goal.returns
returns c = c.get_str.ensures ∙ first_is (found_of c.args.matches.now) (codes "FILE")
