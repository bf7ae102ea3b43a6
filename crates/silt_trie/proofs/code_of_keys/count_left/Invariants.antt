use Rattle.silt_trie.proofs.Common.{◌-◌, bytes_of}
use Rattle.silt_trie.proofs.Sides.{Bounds}
use Rattle.silt_trie.proofs.code_of_keys.count_left.Given as goal

abbrev pub invariant-loop-low : goal.invariant-loop-low
invariant-loop-low l = Bounds l.depth (bytes_of l.keys) l.low l.high

abbrev pub decreases-loop-low : goal.decreases-loop-low
decreases-loop-low l = l.high - l.low
