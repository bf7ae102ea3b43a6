use Rattle.silt_trie.proofs.MarkedKeys.{groups_law}
use Rattle.silt_trie.proofs.marks.groups_law.Goals as goal

pub returns : goal.returns
returns c = groups_law
