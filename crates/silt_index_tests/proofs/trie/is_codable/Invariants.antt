use Rattle.std.proofs.Common.{ℕ, [], ◌+◌, ◌<◌, get_or}
use Rattle.silt_trie.specs.Code.{Follows}
use Rattle.silt_trie.specs.Coded.{bytes_of}
use Rattle.silt_index_tests.proofs.trie.is_codable.Given as goal

abbrev pub invariant-loop-i : goal.invariant-loop-i
invariant-loop-i l = (j : ℕ) → j + 1 < l.i → Follows l.depth (get_or (bytes_of l.keys) j []) (get_or (bytes_of l.keys) (j + 1) [])
