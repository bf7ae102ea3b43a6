use Rattle.silt_trie.proofs.Common.{ap, ◌∙◌, sym, Cut}
use Rattle.silt_trie.proofs.Sealing.{has_sealed, seals, trie_of_opened}
use Rattle.silt_trie.proofs.trie_builder.MarkedTrieBuilder.seal.Goals as goal

pub returns-then-is_some-clause-made : goal.returns-then-is_some-clause-made
returns-then-is_some-clause-made c = rw (← c.self.view_is) (has_sealed c.self.inside.cut c.self.inside.groups (sym c.is_some.ensures ∙ c.if-is_some.true) c.self.invariant)

pub invariant_of-self-2 : goal.invariant_of-self-2
invariant_of-self-2 c =
    trie_of_opened c.self.inside.groups c.complete.new.self _ _ c.complete.ensures.rest c.complete.ensures.grows c.in_ok-complete.ensures.made
    (ap (λ (k : Cut). k.bits) c.size-cut.ensures) (ap (λ (k : Cut). k.marks) c.size-cut.ensures)

pub returns-clause-made : goal.returns-clause-made
returns-clause-made c =
    rw (← c.self.view_is) (seals c.self.inside.cut c.self.inside.groups c.complete.new.self _ _ (sym c.is_some.ensures ∙ c.if-is_some.false) c.complete.ensures.rest
    c.complete.ensures.grows c.in_ok-complete.ensures.made (ap (λ (k : Cut). k.bits) c.size-cut.ensures) (ap (λ (k : Cut). k.marks) c.size-cut.ensures))
