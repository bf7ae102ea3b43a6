use Rattle.silt_trie.proofs.Common.{◌≡◌, ◌+◌, ◌-◌, ◌*◌, ◌^◌, ◌<◌, number_of_bits, prefix_of}
use Rattle.silt_trie.proofs.marks.prefix_number.Given as goal

abbrev pub invariant-loop-at : goal.invariant-loop-at
invariant-loop-at l =
    let rest = l.depth + l.levels - l.at in
    (l.number < 2 ^ (l.at - l.depth)) × (number_of_bits (prefix_of l.levels l.depth l.key.0) ≡ l.number * 2 ^ rest + number_of_bits (prefix_of rest l.at l.key.0))
