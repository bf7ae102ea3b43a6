use Rattle.silt_trie.proofs.Common.{◌≡◌, ℕ, ◌+◌, ◌-◌, ◌^◌, ◌∷◌, ◌++◌, length, min, replicate, refl, rules, arith, on_ok_weaker, bytes_of, trie_code, skips_of}
use Rattle.silt_trie.proofs.Codes.{deep_few, bytes_lefts, bytes_rights, length-bytes_of, written}
use Rattle.silt_trie.proofs.Sides.{lefts_codable, rights_codable}
use Rattle.silt_trie.proofs.SkipsOf.{code_of_few, left_small, skips_written, zeros_end, zeros_few}
use Rattle.silt_trie.proofs.skips.+write_skipped.Goals.{then-keys-lt2-via-then-keys-lt2, then-keys-lt2-via-else-keys-lt2+then-depth-ge-KEY_BITS}
use Rattle.silt_trie.proofs.skips.+write_skipped.Goals as goal

pub returns-then-keys-lt2-clause-code : goal.returns-then-keys-lt2-clause-code
returns-then-keys-lt2-clause-code t c = elim c.then-keys-lt2.branch [
  | then-keys-lt2-via-then-keys-lt2 w ↦ code_of_few (bytes_of c.args.keys.now) c.args.depth c.args.bits.now (omega (arith, length-bytes_of c.args.keys.now))
  | then-keys-lt2-via-else-keys-lt2+then-depth-ge-KEY_BITS w ↦ code_of_few (bytes_of c.args.keys.now) c.args.depth c.args.bits.now (deep_few c.args.depth _ c.requires (omega arith))
]

pub returns-then-keys-lt2-clause-skips : goal.returns-then-keys-lt2-clause-skips
returns-then-keys-lt2-clause-skips t c = λ m zeros. elim c.then-keys-lt2.branch [
  | then-keys-lt2-via-then-keys-lt2 w ↦ zeros_few m (bytes_of c.args.keys.now) c.args.depth c.args.skips.now (omega (arith, length-bytes_of c.args.keys.now)) zeros
  | then-keys-lt2-via-else-keys-lt2+then-depth-ge-KEY_BITS w ↦ zeros_few m (bytes_of c.args.keys.now) c.args.depth c.args.skips.now (deep_few c.args.depth _ c.requires (omega arith)) zeros
]

pub returns-in_default-clause-skips : goal.returns-in_default-clause-skips
returns-in_default-clause-skips t c =
    let keys = bytes_of c.args.keys.now in
    let end : c.write_code.new.bits ≡ c.args.bits.now ++ trie_code keys c.args.depth → (m : ℕ) → c.args.skips.now ≡ replicate (2 ^ m - 1) 0 → c.args.skips.now ≡ skips_of m keys c.args.depth =
    λ code m zeros. zeros_end m keys c.args.depth c.args.skips.now c.in_default.ensures.cases zeros in
    on_ok_weaker _ end c.write_code.ensures.ok

pub overflow_cast-left : goal.overflow_cast-left
overflow_cast-left t c = let small = left_small _ _ _ c.requires c.count_left-left.ensures in omega arith

pub overflow_add-left : goal.overflow_add-left
overflow_add-left t c = let small = left_small _ _ _ c.requires c.count_left-left.ensures in omega arith

pub split_at-requires : goal.split_at-requires
split_at-requires t c = let small = left_small _ _ _ c.requires c.count_left-left.ensures in omega (arith, length-bytes_of c.args.keys.now)

pub write_skipped-requires : goal.write_skipped-requires
write_skipped-requires t c =
    (search rules, rw (bytes_lefts c.args.depth _ _ _ c.requires c.count_left-left.ensures c.split_at.ensures.front) (lefts_codable c.args.depth _ c.requires))

pub write_skipped-requires-2 : goal.write_skipped-requires-2
write_skipped-requires-2 t c =
    (search rules, rw (bytes_rights c.args.depth _ _ _ c.requires c.count_left-left.ensures c.split_at.ensures.back) (rights_codable c.args.depth _ c.requires))

pub returns-clause-code : goal.returns-clause-code
returns-clause-code t c =
    let code = written c.args.depth _ _ _ _ c.args.bits.now _ _ _ c.requires c.if-keys-lt2.false (omega arith) c.count_left-left.ensures
    c.split_at.ensures.front c.split_at.ensures.back c.in_ok-write_gamma.ensures.ok c.in_ok-write_skipped.ensures.code in
    on_ok_weaker _ code c.write_skipped-2.ensures.code

pub returns-clause-skips : goal.returns-clause-skips
returns-clause-skips t c =
    let size : c.skip_of.result ≡ min (length c.write_skipped.new.bits - length c.write_gamma.new.self) 65535 = omega (arith, c.skip_of.ensures, c.len-start.ensures, c.len.ensures) in
    let rights = bytes_of c.split_at.result.1.now in
    let new = c.skip_of.result ∷ (c.write_skipped.new.skips ++ c.write_skipped-2.new.skips) in
    let whole : ((m : ℕ) → c.split_at_mut-left_skips.result.1.now ≡ replicate (2 ^ m - 1) 0 → c.write_skipped-2.new.skips ≡ skips_of m rights (c.args.depth + 1))
    → (m : ℕ) → c.args.skips.now ≡ replicate (2 ^ m - 1) 0 → new ≡ skips_of m (bytes_of c.args.keys.now) c.args.depth =
    λ on_right m zeros.
    skips_written m c.args.depth _ _ _ _ _ _ _ _ _ _ _ _ _ _ _ _ c.requires c.count_left-left.ensures c.split_at.ensures.front
    c.split_at.ensures.back c.in-Some.ensures.cases.0 refl c.split_at_mut-left_skips.ensures.front c.split_at_mut-left_skips.ensures.back
    c.in_ok-write_skipped.ensures.skips on_right c.in_ok-write_skipped.ensures.code size refl zeros
    in
    on_ok_weaker _ whole c.write_skipped-2.ensures.skips
