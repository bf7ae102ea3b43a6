use Rattle.silt_trie.proofs.Common.{sym, ◌∙◌, arith}
use Rattle.std.proofs.lemmas.Option.{same_Some}
use Rattle.silt_trie.proofs.MarkedKeys.{in_range, located, prefix_small}
use Rattle.silt_trie.proofs.marked_trie.MarkedTrie.locate_marked.Goals as goal

pub overflow_add-at : goal.overflow_add-at
overflow_add-at c = let small = prefix_small _ _ _ _ c.self.invariant.1 c.prefix_number-at.ensures in omega arith

pub returns-then-at-len-clause-place : goal.returns-then-at-len-clause-place
returns-then-at-len-clause-place c = rw (← c.self.view_is) λ keys i is stands.
    let inside = in_range _ keys c.prefix_number-at.result _ is c.prefix_number-at.ensures in
    absurd (omega (arith, c.len.ensures))

pub returns-in-Some-clause-place : goal.returns-in-Some-clause-place
returns-in-Some-clause-place c = rw (← c.self.view_is) λ keys i is stands.
    sym c.in-Some.is ∙ located _ keys i c.prefix_number-at.result _ _ _ c.locate_between-found.result is stands c.self.invariant.0
    c.self.invariant.2 c.prefix_number-at.ensures c.index.ensures c.index-2.ensures c.locate_between-found.ensures.place

pub returns-in_default-clause-place : goal.returns-in_default-clause-place
returns-in_default-clause-place c = rw (← c.self.view_is) λ keys i is stands.
    let there = sym c.in-Some.is ∙ located _ keys i c.prefix_number-at.result _ _ _ c.locate_between-found.result is stands
    c.self.invariant.0 c.self.invariant.2 c.prefix_number-at.ensures c.index.ensures c.index-2.ensures c.locate_between-found.ensures.place in
    let same = same_Some _ _ there in
    absurd (omega (arith, c.if-place-self.false))

pub returns-in_default-2-clause-place : goal.returns-in_default-2-clause-place
returns-in_default-2-clause-place c = rw (← c.self.view_is) λ keys i is stands.
    sym c.in_default.is ∙ located _ keys i c.prefix_number-at.result _ _ _ c.locate_between-found.result is stands c.self.invariant.0
    c.self.invariant.2 c.prefix_number-at.ensures c.index.ensures c.index-2.ensures c.locate_between-found.ensures.place
