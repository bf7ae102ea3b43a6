use Rattle.silt_trie.proofs.Common.{◌+◌, refl, arith, on_ok_weaker, IsCodable, bytes_of}
use Rattle.silt_trie.proofs.Codes.{left_within, bytes_lefts, bytes_rights, length-bytes_of}
use Rattle.silt_trie.proofs.MarkedKeys.{code_marked, marks_marked}
use Rattle.silt_trie.proofs.Sides.{lefts_codable, rights_codable}
use Rattle.silt_trie.proofs.marked_code.+write_marked.Goals as goal

pub split_at-requires : goal.split_at-requires
split_at-requires t c =
    let count = length-bytes_of c.args.keys.now in
    let inside = left_within c.args.depth _ c.requires.codable in
    omega (arith, c.in_ok-left.ensures.left)

pub write_marked-requires : goal.write_marked-requires
write_marked-requires t c =
    let part : IsCodable (bytes_of c.split_at.result.0.now) (c.args.depth + 1) =
    rw (bytes_lefts c.args.depth _ _ _ c.requires.codable c.in_ok-left.ensures.left c.split_at.ensures.front) (lefts_codable c.args.depth _ c.requires.codable) in
    (omega arith, (part, (omega arith, omega arith)))

pub write_marked-requires-2 : goal.write_marked-requires-2
write_marked-requires-2 t c =
    let part : IsCodable (bytes_of c.split_at.result.1.now) (c.args.depth + 1) =
    rw (bytes_rights c.args.depth _ _ _ c.requires.codable c.in_ok-left.ensures.left c.split_at.ensures.back) (rights_codable c.args.depth _ c.requires.codable) in
    (omega arith, (part, (omega arith, omega arith)))

pub returns-clause-code : goal.returns-clause-code
returns-clause-code t c =
    on_ok_weaker _ (code_marked 0 0 c.args.depth _ _ _ _ c.args.bits.now _ _ _ c.requires.codable (omega arith) refl c.in_ok-left.ensures.left
    c.split_at.ensures.front c.split_at.ensures.back c.in_ok-left.ensures.code c.in_ok-write_marked.ensures.code) c.write_marked-2.ensures.code

pub returns-clause-marks : goal.returns-clause-marks
returns-clause-marks t c =
    on_ok_weaker _ (marks_marked c.args.levels 0 0 c.args.depth _ c.args.place _ _ _ c.args.bits.now _ _ _ _ _ c.requires.codable (omega arith)
    refl c.in_ok-left.ensures.left c.split_at.ensures.front c.split_at.ensures.back c.in_ok-left.ensures.code
    c.in_ok-write_marked.ensures.code c.in_ok-write_marked.ensures.marks) c.write_marked-2.ensures.marks
