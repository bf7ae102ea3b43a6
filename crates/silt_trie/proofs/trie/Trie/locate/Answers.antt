use Rattle.silt_trie.proofs.Common.{◌++◌, sym, ap, ◌∙◌, arith, trie_code, take_all, Coded}
use Rattle.silt_trie.proofs.trie.Trie.locate.Goals as goal

pub returns-clause-place : goal.returns-clause-place
returns-clause-place c = λ keys i rest codable count is stands.
    let code = ap (λ (t : Coded). t.code) c.self.view_is in
    let many = ap (λ (t : Coded). t.count) c.self.view_is in
    let deep = ap (λ (t : Coded). t.depth) c.self.view_is in
    let all = take_all c.len.result c.self.inside.bits (omega (arith, c.len.ensures)) in
    c.locate_in.ensures.place keys i rest (rw deep codable) (count ∙ sym many) (c.reader-bits.ensures ∙ all ∙ code ∙ is ∙ ap (λ d. trie_code keys d ++ rest) (sym deep)) stands
