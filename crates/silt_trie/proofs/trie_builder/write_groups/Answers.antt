use Rattle.silt_trie.proofs.Common.{◌≡◌, [], rules, arith, Grows}
use Rattle.silt_trie.proofs.Built.{codes_more}
use Rattle.silt_trie.proofs.Growing.{grows_twice}
use Rattle.silt_trie.proofs.trie_builder.write_groups.Goals as goal

pub returns-in_err-write_marked-clause-grows : goal.returns-in_err-write_marked-clause-grows
returns-in_err-write_marked-clause-grows c =
    let bits : Grows c.args.bits.now c.write_marked.new.bits = grows_twice _ c.loop-group.bits _ c.loop-group.invariant.grown.0 c.in_err-write_marked.ensures.err.0 in
    let marks : Grows c.args.marks.now.items c.write_marked.new.marks.items = grows_twice _ c.loop-group.marks.items _ c.loop-group.invariant.grown.1 c.in_err-write_marked.ensures.err.1 in
    search rules

pub loop-group-preserved : goal.loop-group-preserved
loop-group-preserved c =
    codes_more _ _ _ _ _ c.args.keys.now c.loop-group.waiting.now _ _ _ _ _ _ (omega arith) c.requires.levels.0 c.loop-group.invariant
    (omega arith) c.in_ok-write_marked.ensures.code c.in_ok-write_marked.ensures.marks

pub returns-clause-coded : goal.returns-clause-coded
returns-clause-coded c = λ all last has.
    let end : c.loop-group._group ≡ c.args.groups.end = omega arith in
    let none : c.loop-group.waiting.now ≡ [] = c.loop-group.invariant.empty (omega arith) in
    rw (end, none) at (c.loop-group.invariant.coded all last has)
