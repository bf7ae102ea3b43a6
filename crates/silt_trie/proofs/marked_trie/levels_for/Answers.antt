use Rattle.silt_trie.proofs.Common.{◌≡◌, arith}
use Rattle.silt_trie.proofs.marked_trie.levels_for.Goals as goal

pub returns-clause-least : goal.returns-clause-least
returns-clause-least c = λ h.
    let e : c.loop-levels.levels ≡ 24 = omega arith in
    let least = c.loop-levels.invariant (omega arith) in
    rw e at least
