use Rattle.silt_trie.proofs.Order.{order_law}
use Rattle.silt_trie.proofs.laws.order_law.Goals as goal

pub returns : goal.returns
returns c = order_law
