use Rattle.silt_trie.proofs.Common.{◌-◌, ◌*◌, ◌^◌, ◌<◌}
use Rattle.silt_trie.proofs.marked_trie.levels_for.Given as goal

abbrev pub invariant-loop-levels : goal.invariant-loop-levels
invariant-loop-levels l = 8 < l.levels → 512 * 2 ^ (l.levels - 1) < l.count
