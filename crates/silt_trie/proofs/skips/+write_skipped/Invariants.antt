use Rattle.silt_trie.proofs.Common.{◌-◌}
use Rattle.silt_trie.proofs.skips.+write_skipped.Given as goal

abbrev pub decreases-write_skipped : goal.decreases-write_skipped
decreases-write_skipped l = 160 - l.depth
