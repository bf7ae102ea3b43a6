use Rattle.silt_trie.proofs.Common.{refl}
use Rattle.silt_trie.proofs.Built.{built_none}
use Rattle.silt_trie.proofs.trie_builder.Groups.new.Goals as goal

pub returns-clause-empty : goal.returns-clause-empty
returns-clause-empty c = built_none _ c.new.ensures c.new-2.ensures.items c.new-3.ensures.items refl refl
