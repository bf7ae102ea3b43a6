use Rattle.silt_hasher.proofs.Compressing.{compressed}
use Rattle.silt_hasher.proofs.compress.compress.Goals as goal

pub returns : goal.returns
returns c = compressed c.args.value.now c.args.block.now c.words_of-words.result c.all_rounds.new.value c.words_of-words.ensures c.all_rounds.ensures
