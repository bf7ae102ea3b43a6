use Rattle.std.proofs.Common.{rules, ◌∙◌, ◌+◌, ◌-◌, refl, arith}
use Rattle.std.proofs.lemmas.List.{take_more_set}
use Rattle.sha1.specs.Sha1.{first_words}
use Rattle.silt_hasher.proofs.Compressing.{no_word_made, one_word, one_word_made}
use Rattle.silt_hasher.proofs.compress.words_of.Goals as goal

pub block-init : goal.block-init
unfolding first_words
block-init c = (refl, refl)

pub block-preserved : goal.block-preserved
block-preserved c = (
  search rules,
  take_more_set c.block.words c.block.i c.word_at.result (omega arith)
      ∙ one_word c.args.block.now c.block.words c.block.i (c.block.i + 1) c.word_at.result (omega arith) c.block.invariant.1 c.word_at.ensures,
)

pub made-init : goal.made-init
made-init c = (c.block.invariant.0, search (arith), no_word_made c.args.block.now c.block.words c.block.i (omega arith) c.block.invariant.1)

pub made-preserved : goal.made-preserved
made-preserved c = (
  search rules,
  omega arith,
  take_more_set c.made.words c.made.t c.next_word.result (omega arith)
      ∙ one_word_made c.args.block.now c.made.words c.made.t (c.made.t - 16) (c.made.t + 1 - 16) c.next_word.result (omega arith) (omega arith) c.made.invariant.2 c.next_word.ensures,
)
