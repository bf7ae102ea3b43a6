-- Lemmas on skips over code.
use Rattle.silt_trie.proofs.Common.{◌≡◌, ℕ, zero, suc, ◌+◌, ◌-◌, ◌/◌, ◌^◌, ◌<◌, ◌≤◌, min, List, [], ◌∷◌, ◌++◌, length, take, drop, replicate, Some, None, refl, sym, ap, ◌∙◌, arith, take_at}
use Rattle.silt_trie.proofs.Common.{pow-succ', Key, IsCodable, trie_code, with_bit, bytes_of, pow_pos, append-nil, drop_at, length-append, length-replicate, replicate-append-replicate}
use Rattle.silt_trie.proofs.Common.{take-replicate, drop-replicate, AreSkipsInto, skip_over}
use Rattle.silt_trie.specs.Marks.{skips_of}
use Rattle.silt_trie.proofs.Codes.{bytes_lefts, bytes_rights, left_within, short_code}
use Rattle.silt_trie.proofs.Groups.{length_sides}

-- fewer than two keys add no code
pub code_of_few : (keys : List (List ℕ)) (d : ℕ) (bits : List ℕ) → length keys < 2 → bits ≡ bits ++ trie_code keys d
code_of_few keys d bits few = sym (append-nil bits) ∙ ap (λ (xs : List ℕ). bits ++ xs) (sym (short_code keys d few))

-- the number of keys on the left can be coded
pub left_small : (d left : ℕ) (keys : List (List ℕ)) → IsCodable keys d → left ≡ length (with_bit 0 d keys) → (left ≤ length keys) × (left + 1 < 2 ^ 32)
left_small d left keys codable is = let inside = left_within d keys codable in let limit = codable.few in (omega arith, omega arith)

-- keys that are not divided have no skips
pub skips_none : (keys : List (List ℕ)) (d : ℕ) → skips_of 0 keys d ≡ []
unfolding skips_of
skips_none keys d = refl

-- divided keys have the skip over the left side, and those into both sides
skips_split : (m : ℕ) (keys : List (List ℕ)) (d : ℕ)
    → skips_of (suc m) keys d ≡ skip_over (with_bit 0 d keys) (d + 1) ∷ (skips_of m (with_bit 0 d keys) (d + 1) ++ skips_of m (with_bit 1 d keys) (d + 1))
unfolding skips_of
skips_split m keys d = refl

-- how many skips there are
length-skips_of : (m : ℕ) (keys : List (List ℕ)) (d : ℕ) → length (skips_of m keys d) + 1 ≡ 2 ^ m
length-skips_of zero keys d = rw skips_none
length-skips_of (suc m) keys d = search (arith, length-skips_of m (with_bit 0 d keys) (d + 1), length-skips_of m (with_bit 1 d keys) (d + 1), skips_split, length-append)

-- one fewer than twice as many is one and twice one fewer
halved : (m n : ℕ) → n + 1 ≡ 2 ^ suc m → n ≡ suc ((2 ^ m - 1) + (2 ^ m - 1))
halved m n count = let double = pow-succ' 2 m in let some = pow_pos m in omega arith

-- zeros, part by part
parted_zeros : (n : ℕ) → replicate {A = ℕ} (suc (n + n)) 0 ≡ 0 ∷ (replicate n 0 ++ replicate n 0)
parted_zeros n = rw (replicate-append-replicate {A = ℕ} n n 0)

-- both halves of zeros behind a first one
halves_of_zeros : (n first half : ℕ) (parts lefts rights : List ℕ) → first ∷ parts ≡ replicate (suc (n + n)) 0 → half ≡ length parts / 2 → lefts ≡ take half parts → rights ≡ drop half parts
    → (lefts ≡ replicate n 0) × (rights ≡ replicate n 0)
halves_of_zeros n first half parts lefts rights whole half_is left right = search (arith, length-replicate, take-replicate, drop-replicate)

-- fewer than two keys have no code to skip
few_skips : (m n : ℕ) (keys : List (List ℕ)) (d : ℕ) → length keys < 2 → n + 1 ≡ 2 ^ m → replicate n 0 ≡ skips_of m keys d
few_skips zero n keys d few count = let none : n ≡ 0 = omega arith in cc (skips_none keys d)
few_skips (suc m) n keys d few count =
    let half = 2 ^ m - 1 in
    let some = pow_pos m in
    let sides = length_sides d keys in
    let over = short_code (with_bit 0 d keys) (d + 1) (omega arith) in
    let one = few_skips m half (with_bit 0 d keys) (d + 1) (omega arith) (omega arith) in
    let two = few_skips m half (with_bit 1 d keys) (d + 1) (omega arith) (omega arith) in
    cc (halved m n count, parted_zeros half, skips_split m keys d)

-- zeros are the skips of fewer than two keys
pub zeros_few : (m : ℕ) (keys : List (List ℕ)) (d : ℕ) (skips : List ℕ) → length keys < 2 → skips ≡ replicate (2 ^ m - 1) 0 → skips ≡ skips_of m keys d
zeros_few m keys d skips few zeros = let some = pow_pos m in zeros ∙ few_skips m (2 ^ m - 1) keys d few (omega arith)

-- no zeros are the skips of keys that are not divided
pub zeros_end : (m : ℕ) (keys : List (List ℕ)) (d : ℕ) (skips : List ℕ) → length skips ≡ 0 → skips ≡ replicate (2 ^ m - 1) 0 → skips ≡ skips_of m keys d
zeros_end zero keys d skips none zeros = cc (skips_none keys d)
zeros_end (suc m) keys d skips none zeros = search (arith, length-replicate, pow_pos)

-- no skips are divided into none
pub divided_none : (m : ℕ) (keys : List (List ℕ)) (d : ℕ) (skips : List ℕ) → length skips ≡ 0 → skips ≡ skips_of m keys d → AreSkipsInto m keys d None skips skips
divided_none zero keys d skips none is = search (arith, skips_none)
divided_none (suc m) keys d skips none is = search (arith, pow_pos, length-skips_of)

-- the first skip is the one over the left side, and both halves of the others are those into the two sides
pub divided_some : (m : ℕ) (keys : List (List ℕ)) (d skip half : ℕ) (skips parts lefts rights : List ℕ) → skips ≡ skip ∷ parts
    → half ≡ length parts / 2 → lefts ≡ take half parts → rights ≡ drop half parts → skips ≡ skips_of m keys d
    → AreSkipsInto m keys d (Some skip) lefts rights
divided_some zero keys d skip half skips parts lefts rights all half_is left right is = absurd (cc (skips_none keys d))
divided_some (suc m) keys d skip half skips parts lefts rights all half_is left right is = search (arith, skips_split, length-append, length-skips_of, take_at, drop_at)

-- zeros that are overwritten by the skip over the left side, and then by both sides' skips
pub skips_written : (m d left half first skip : ℕ) (keys lefts rights : List Key) (zeros parts zeros_left zeros_right new_left new_right new before after : List ℕ)
    → IsCodable (bytes_of keys) d → left ≡ length (with_bit 0 d (bytes_of keys)) → lefts ≡ take left keys → rights ≡ drop left keys
    → zeros ≡ first ∷ parts → half ≡ length parts / 2 → zeros_left ≡ take half parts → zeros_right ≡ drop half parts
    → ((k : ℕ) → zeros_left ≡ replicate (2 ^ k - 1) 0 → new_left ≡ skips_of k (bytes_of lefts) (d + 1))
    → ((k : ℕ) → zeros_right ≡ replicate (2 ^ k - 1) 0 → new_right ≡ skips_of k (bytes_of rights) (d + 1))
    → after ≡ before ++ trie_code (bytes_of lefts) (d + 1) → skip ≡ min (length after - length before) 65535 → new ≡ skip
    ∷ (new_left ++ new_right) → zeros ≡ replicate (2 ^ m - 1) 0 → new ≡ skips_of m (bytes_of keys) d
skips_written zero d left half first skip keys lefts rights zeros parts zeros_left zeros_right new_left new_right new before after
    codable count front back all half_is one two on_left on_right code skip_is new_is is = absurd (cc)
skips_written (suc m) d left half first skip keys lefts rights zeros parts zeros_left zeros_right new_left new_right new before
    after codable count front back all half_is one two on_left on_right code skip_is new_is is =
    let n = 2 ^ m - 1 in
    let some = pow_pos m in
    let double = pow-succ' 2 m in
    let whole : first ∷ parts ≡ replicate (suc (n + n)) 0 = cc (halved m (2 ^ suc m - 1) (omega arith)) in
    let halves = halves_of_zeros n first half parts zeros_left zeros_right whole half_is one two in
    let l = bytes_lefts d left keys lefts codable count front in
    search (arith, bytes_rights, length-append, skips_split)
