use Rattle.silt_trie.proofs.Common.{◌≡◌, ◌+◌, ◌-◌, ◌∙◌, arith, bit_of}
use Rattle.silt_trie.proofs.KeyBits.{bit_small}
use Rattle.silt_trie.proofs.MarkedKeys.{number_grows, number_step}
use Rattle.silt_trie.proofs.marks.prefix_number.Goals as goal

pub loop-at-preserved : goal.loop-at-preserved
loop-at-preserved c =
    let at = c.loop-at.at in
    let key = c.args.key.now.0 in
    let bit : c.from.result ≡ bit_of at key = c.from.ensures ∙ c.key_bit.ensures.bit in
    let small = bit_small at key in (
      number_grows c.loop-at.number (at - c.args.depth) _ c.from.result c.loop-at.invariant.0 (omega arith) (omega arith),
      number_step c.loop-at.number (c.args.depth + c.args.levels - at) (c.args.depth + c.args.levels - (at + 1)) at c.from.result key _ bit (omega arith) c.loop-at.invariant.1,
    )
