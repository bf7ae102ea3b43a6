use Rattle.silt_trie.proofs.Common.{◌-◌}
use Rattle.silt_trie.proofs.key_place.+locate_from.Given as goal

abbrev pub decreases-locate_from : goal.decreases-locate_from
decreases-locate_from l = 160 - l.depth
