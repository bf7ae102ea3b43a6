use Rattle.silt_trie.proofs.MarkedKeys.{mark_law}
use Rattle.silt_trie.proofs.marks.mark_law.Goals as goal

pub returns : goal.returns
returns c = mark_law
