use Rattle.silt_trie.proofs.Common.{arith, false≢true}
use Rattle.silt_trie.proofs.Order.{follows_test, not_tied, not_alike}
use Rattle.silt_trie.proofs.coded_keys.follows.Goals.{then-common-ge-KEY_BITS-via-then-common-ge-KEY_BITS, then-common-ge-KEY_BITS-via-else-common-ge-KEY_BITS+then-common-depth}
use Rattle.silt_trie.proofs.coded_keys.follows.Goals as goal

pub returns : goal.returns
returns c =
    let common = c.common_bits-common.ensures in
    follows_test c.args.depth c.common_bits-common.result _ _ c.args.a.now.0 c.args.b.now.0 c.key_bit.ensures.sized c.key_bit-2.ensures.sized (omega arith)
    (omega arith) common.alike (common.differ (omega arith)) c.key_bit.ensures.bit c.key_bit-2.ensures.bit

pub returns-then-common-ge-KEY_BITS : goal.returns-then-common-ge-KEY_BITS
returns-then-common-ge-KEY_BITS c =
    let a = c.args.a.now.0 in
    let b = c.args.b.now.0 in
    let common = c.common_bits-common.ensures in
    let within = common.within in (
      λ e. absurd (false≢true e),
      λ next. elim c.then-common-ge-KEY_BITS.branch [
        | then-common-ge-KEY_BITS-via-then-common-ge-KEY_BITS w ↦ absurd (not_tied c.args.depth a b (λ k h. common.alike k (omega arith)) next)
        | then-common-ge-KEY_BITS-via-else-common-ge-KEY_BITS+then-common-depth w ↦ absurd (not_alike c.args.depth c.common_bits-common.result a b (omega arith) (common.differ (omega arith)) next)
      ],
    )
