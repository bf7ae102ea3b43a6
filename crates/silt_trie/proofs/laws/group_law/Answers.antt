use Rattle.silt_trie.proofs.Order.{group_law}
use Rattle.silt_trie.proofs.laws.group_law.Goals as goal

pub returns : goal.returns
returns c = group_law
