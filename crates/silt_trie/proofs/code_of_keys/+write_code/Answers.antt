use Rattle.silt_trie.proofs.Common.{◌≡◌, [], ◌++◌, sym, ap, ◌∙◌, rules, arith, on_ok_weaker, bytes_of, trie_code, append-nil}
use Rattle.silt_trie.proofs.Codes.{short_code, deep_code, left_within, bytes_lefts, bytes_rights, length-bytes_of, written}
use Rattle.silt_trie.proofs.Sides.{lefts_codable, rights_codable}
use Rattle.silt_trie.proofs.code_of_keys.+write_code.Goals.{then-keys-lt2-via-then-keys-lt2, then-keys-lt2-via-else-keys-lt2+then-depth-ge-KEY_BITS}
use Rattle.silt_trie.proofs.code_of_keys.+write_code.Goals as goal

pub returns-then-keys-lt2-clause-ok : goal.returns-then-keys-lt2-clause-ok
returns-then-keys-lt2-clause-ok t c =
    let keys = bytes_of c.args.keys.now in
    let count = length-bytes_of c.args.keys.now in
    let none : trie_code keys c.args.depth ≡ [] = elim c.then-keys-lt2.branch [
      | then-keys-lt2-via-then-keys-lt2 w ↦ short_code keys c.args.depth (omega arith)
      | then-keys-lt2-via-else-keys-lt2+then-depth-ge-KEY_BITS w ↦ deep_code keys c.args.depth (omega arith)
    ] in
    sym (ap (λ xs. c.args.bits.now ++ xs) none ∙ append-nil c.args.bits.now)

pub overflow_cast-left : goal.overflow_cast-left
overflow_cast-left t c = let inside = left_within c.args.depth _ c.requires in let limit = c.requires.few in omega (arith, c.count_left-left.ensures)

pub overflow_add-left : goal.overflow_add-left
overflow_add-left t c = let inside = left_within c.args.depth _ c.requires in let limit = c.requires.few in omega (arith, c.count_left-left.ensures)

pub split_at-requires : goal.split_at-requires
split_at-requires t c =
    let count = length-bytes_of c.args.keys.now in
    let inside = left_within c.args.depth _ c.requires in
    omega (arith, c.count_left-left.ensures)

pub write_code-requires : goal.write_code-requires
write_code-requires t c =
    (search rules, rw (bytes_lefts c.args.depth _ _ _ c.requires c.count_left-left.ensures c.split_at.ensures.front) (lefts_codable c.args.depth _ c.requires))

pub write_code-requires-2 : goal.write_code-requires-2
write_code-requires-2 t c =
    (search rules, rw (bytes_rights c.args.depth _ _ _ c.requires c.count_left-left.ensures c.split_at.ensures.back) (rights_codable c.args.depth _ c.requires))

pub returns-clause-ok : goal.returns-clause-ok
returns-clause-ok t c =
    let code = written c.args.depth _ _ _ _ c.args.bits.now _ _ _ c.requires c.if-keys-lt2.false (omega arith) c.count_left-left.ensures
    c.split_at.ensures.front c.split_at.ensures.back c.in_ok-write_gamma.ensures.ok c.in_ok-write_code.ensures.ok in
    on_ok_weaker _ code c.write_code-2.ensures.ok
