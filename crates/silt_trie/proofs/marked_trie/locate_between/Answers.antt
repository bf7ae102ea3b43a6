use Rattle.silt_trie.proofs.Common.{◌≡◌, ◌+◌, ℕ, ap, min, max, length, Some, arith, trie_code, skip_levels}
use Rattle.silt_trie.proofs.MarkedKeys.{cut}
use Rattle.silt_trie.proofs.marked_trie.locate_between.Goals as goal

pub returns-clause-place : goal.returns-clause-place
returns-clause-place c = λ keys i rest codable count upto code skips stands.
    let len = length c.args.bits.now in
    let start : c.min-start.result ≡ min c.args.mark.now.start len = omega (arith, c.min-start.ensures, c.len.ensures) in
    let end : c.max-end.result ≡ max (min c.args.next.now.start len) c.min-start.result = omega (arith, c.max-end.ensures, c.min.ensures, c.len-2.ensures) in
    let part = cut c.args.mark.now.start c.args.next.now.start c.min-start.result c.max-end.result c.args.bits.now c.reader-part.result
    (trie_code keys c.args.depth) rest c.reader-part.ensures start end code upto in
    let place = c.locate_from-found.ensures.place skip_levels keys i part.0 codable (omega arith) part.1 skips stands in
    ap (λ (j : ℕ). Some (c.args.mark.now.place + j)) place
