use Rattle.silt_trie.proofs.marked_code.+write_marked.Given as goal

abbrev pub decreases-write_marked : goal.decreases-write_marked
decreases-write_marked l = l.levels
