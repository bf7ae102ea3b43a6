use Rattle.silt_trie.proofs.Common.{arith}
use Rattle.silt_trie.proofs.KeyBits.{key_bit_is}
use Rattle.silt_trie.proofs.key.key_bit.Goals as goal

pub returns-clause-bit : goal.returns-clause-bit
returns-clause-bit c = key_bit_is c.args.depth c.args.key.now.0 (omega arith)
