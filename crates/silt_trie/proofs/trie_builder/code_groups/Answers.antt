use Rattle.silt_trie.proofs.trie_builder.code_groups.Goals as goal

-- room for marks changes none of them
pub returns-in-Ok-clause-coded : goal.returns-in-Ok-clause-coded
returns-in-Ok-clause-coded c = rw (← c.reserve_marks.ensures) c.in-Ok.ensures.coded
