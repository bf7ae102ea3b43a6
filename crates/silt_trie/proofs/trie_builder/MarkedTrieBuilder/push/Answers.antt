use Rattle.silt_trie.proofs.trie_builder.MarkedTrieBuilder.push.Goals as goal

pub returns-in-None-clause-built : goal.returns-in-None-clause-built
returns-in-None-clause-built c = rw (← c.self.view_is) (rw c.in-None.is c.push.ensures.built)
