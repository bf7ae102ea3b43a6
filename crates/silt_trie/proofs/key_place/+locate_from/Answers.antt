use Rattle.silt_trie.proofs.Common.{◌-◌, ◌∙◌, sym, inl, inr, arith, with_bit}
use Rattle.silt_trie.proofs.Codes.{only_place, node, left_within, length_rights, stands_left, stands_right}
use Rattle.silt_trie.proofs.Sides.{lefts_codable, rights_codable}
use Rattle.silt_trie.proofs.key_place.+locate_from.Goals.{then-count-lt2-via-then-count-lt2, then-count-lt2-via-else-count-lt2+then-depth-ge-KEY_BITS}
use Rattle.silt_trie.proofs.key_place.+locate_from.Goals as goal

pub returns-then-count-lt2-clause-place : goal.returns-then-count-lt2-clause-place
returns-then-count-lt2-clause-place t c = λ m keys i rest codable count is skips stands. elim c.then-count-lt2.branch [
  | then-count-lt2-via-then-count-lt2 w ↦ only_place keys c.args.depth i _ codable (inl (omega arith)) stands
  | then-count-lt2-via-else-count-lt2+then-depth-ge-KEY_BITS w ↦ only_place keys c.args.depth i _ codable (inr (omega arith)) stands
]

pub returns-then-left-eq0-clause-place : goal.returns-then-left-eq0-clause-place
returns-then-left-eq0-clause-place t c = λ m keys i rest codable count is skips stands.
    let d = c.args.depth in
    let begins = node keys d _ rest codable (omega arith) (omega arith) is in
    let inside = left_within d keys codable in
    let read = c.read_left-left.ensures.read _ _ begins (omega arith) in
    let there = (stands_left d i c.args.key.now.0 keys codable stands (sym c.key_bit.ensures.bit ∙ c.if-key_bit-eq0.true)).0 in
    absurd (omega arith)

pub returns-then-key_bit-eq0-clause-place : goal.returns-then-key_bit-eq0-clause-place
returns-then-key_bit-eq0-clause-place t c = λ m keys i rest codable count is skips stands.
    let d = c.args.depth in
    let begins = node keys d _ rest codable (omega arith) (omega arith) is in
    let inside = left_within d keys codable in
    let read = c.read_left-left.ensures.read _ _ begins (omega arith) in
    let there = stands_left d i c.args.key.now.0 keys codable stands (sym c.key_bit.ensures.bit ∙ c.if-key_bit-eq0.true) in
    let parts = c.divide_skips-skip.ensures m keys d skips in
    c.locate_from.ensures.place (m - 1) (with_bit 0 d keys) i _ (lefts_codable d keys codable) (omega arith) read.1 parts.left there

pub returns-then-left-count-clause-place : goal.returns-then-left-count-clause-place
returns-then-left-count-clause-place t c = λ m keys i rest codable count is skips stands.
    let d = c.args.depth in
    let begins = node keys d _ rest codable (omega arith) (omega arith) is in
    let inside = left_within d keys codable in
    let read = c.read_left-left.ensures.read _ _ begins (omega arith) in
    let there = (stands_right d i c.args.key.now.0 keys codable stands (λ e. c.if-key_bit-eq0.false (c.key_bit.ensures.bit ∙ e))).0 in
    absurd (omega arith)

pub returns-clause-place : goal.returns-clause-place
returns-clause-place t c = λ m keys i rest codable count is skips stands.
    let d = c.args.depth in
    let begins = node keys d _ rest codable (omega arith) (omega arith) is in
    let inside = left_within d keys codable in
    let read = c.read_left-left.ensures.read _ _ begins (omega arith) in
    let there = stands_right d i c.args.key.now.0 keys codable stands (λ e. c.if-key_bit-eq0.false (c.key_bit.ensures.bit ∙ e)) in
    let more = length_rights d keys codable in
    let parts = c.divide_skips-skip.ensures m keys d skips in
    let passed = c.pass_code.ensures (with_bit 0 d keys) _ (lefts_codable d keys codable) (omega arith) read.1 parts.over in
    let place = c.locate_from-2.ensures.place (m - 1) (with_bit 1 d keys) _ rest (rights_codable d keys codable) (omega arith) passed parts.right there.1 in
    omega arith
