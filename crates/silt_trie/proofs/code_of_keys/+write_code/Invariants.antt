use Rattle.silt_trie.proofs.Common.{◌-◌}
use Rattle.silt_trie.proofs.code_of_keys.+write_code.Given as goal

abbrev pub decreases-write_code : goal.decreases-write_code
decreases-write_code l = 160 - l.depth
