use Rattle.silt_trie.proofs.Common.{AgreeIn}
use Rattle.silt_trie.proofs.coded_keys.common_bits.Given as goal

abbrev pub invariant-loop-at : goal.invariant-loop-at
invariant-loop-at l = AgreeIn l.at l.a.0 l.b.0
