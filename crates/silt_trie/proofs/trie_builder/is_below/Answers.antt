use Rattle.silt_trie.proofs.Common.{sym, ap, ◌∙◌, is_lt}
use Rattle.silt_trie.proofs.Above.{may_follow}
use Rattle.silt_trie.proofs.trie_builder.is_below.Goals as goal

pub returns-clause-next : goal.returns-clause-next
returns-clause-next c = λ is. may_follow c.args.low.now c.args.high.now c.told-low c.told-high c.fits-low c.fits-high (sym (ap is_lt c.cmp.ensures) ∙ sym c.is_lt.ensures ∙ is)
