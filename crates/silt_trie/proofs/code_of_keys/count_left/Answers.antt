use Rattle.silt_trie.proofs.Common.{◌+◌, ◌-◌, ◌/◌, [], sym, ap, ◌∙◌, arith, bit_of}
use Rattle.silt_trie.proofs.Codes.{bytes_at, length-bytes_of}
use Rattle.silt_trie.proofs.Sides.{bounds_up, bounds_down, bounds_end}
use Rattle.silt_trie.proofs.code_of_keys.count_left.Goals as goal

pub loop-low-preserved-then-key_bit-eq0 : goal.loop-low-preserved-then-key_bit-eq0
loop-low-preserved-then-key_bit-eq0 c =
    let count = length-bytes_of c.args.keys.now in
    let middle = c.loop-low.low + (c.loop-low.high - c.loop-low.low) / 2 in
    let here = ap (bit_of c.args.depth) (bytes_at c.args.keys.now middle (record { 0 = [] }) (omega arith)) in
    bounds_up c.args.depth _ _ middle _ c.requires.codable c.loop-low.invariant (omega arith) (here ∙ sym c.key_bit.ensures.bit ∙ c.if-key_bit-eq0.true)

pub loop-low-preserved : goal.loop-low-preserved
loop-low-preserved c =
    let count = length-bytes_of c.args.keys.now in
    let middle = c.loop-low.low + (c.loop-low.high - c.loop-low.low) / 2 in
    let here = ap (bit_of c.args.depth) (bytes_at c.args.keys.now middle (record { 0 = [] }) (omega arith)) in
    bounds_down c.args.depth _ _ middle _ c.requires.codable c.loop-low.invariant (omega arith) (omega arith) (λ e. c.if-key_bit-eq0.false (c.key_bit.ensures.bit ∙ sym here ∙ e))

pub returns : goal.returns
returns c = bounds_end c.args.depth c.loop-low.low c.loop-low.high _ c.requires.codable c.loop-low.invariant c.loop-low-test.false
