use Rattle.silt_trie.proofs.Common.{◌≡◌, ℕ, List, ◌++◌, length, IsCodable, trie_code}
use Rattle.silt_trie.proofs.Pending.{Pending}
use Rattle.silt_trie.proofs.key_place.skip_code.Given as goal

abbrev pub invariant-loop-top : goal.invariant-loop-top
invariant-loop-top l =
    (length l.pending ≡ 161)
    × ((keys : List (List ℕ)) (rest : List ℕ) → IsCodable keys l.depth → length keys ≡ l.fn.count → l.initial.bits ≡ trie_code keys l.depth ++ rest → Pending l.depth l.pending l.top l.bits rest)

abbrev pub decreases-loop-top : goal.decreases-loop-top
decreases-loop-top l = length l.bits
