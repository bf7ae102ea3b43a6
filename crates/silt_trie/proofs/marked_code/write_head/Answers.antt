use Rattle.silt_trie.proofs.Common.{arith}
use Rattle.silt_trie.proofs.Codes.{left_within}
use Rattle.silt_trie.proofs.marked_code.write_head.Goals as goal

pub overflow_cast-left : goal.overflow_cast-left
overflow_cast-left c = let inside = left_within c.args.depth _ c.requires.codable in let limit = c.requires.codable.few in omega (arith, c.count_left-left.ensures)

pub overflow_add-left : goal.overflow_add-left
overflow_add-left c = let inside = left_within c.args.depth _ c.requires.codable in let limit = c.requires.codable.few in omega (arith, c.count_left-left.ensures)
