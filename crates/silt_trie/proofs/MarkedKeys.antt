-- Lemmas on marks.
use Rattle.silt_trie.proofs.Common.{◌≡◌, ℕ, zero, suc, ◌+◌, ◌-◌, ◌*◌, ◌^◌, ◌<◌, ◌≤◌, min, max, List, [], ◌∷◌, ◌++◌, length, take, drop, get_or, Option, Some, refl, sym, ap, ◌∙◌, inl, inr, arith}
use Rattle.silt_trie.proofs.Common.{length-drop, get_or-append-add, cases_lt, le-leb, lt-leb, pow-succ', bit_of, with_bit, trie_code, IsCodable, StandsAt, prefix_of, number_of_bits, grouped_code}
use Rattle.silt_trie.proofs.Common.{marks_of, mark_behind, skip_levels, skips_of, MarkedCode, IsMadeOf, bytes_of, Key, Mark, flat_map, append_assoc, append-nil, length-append, get_or_default}
use Rattle.silt_trie.proofs.Common.{get_or-take, get_or-drop, drop_of_length-le, AreBits, GroupsLaw, prefixes, sub_keys, head_code, MarkLaw, IsPlaceBetween}
use Rattle.std.proofs.Math.Seq.{take-append-add, drop-append_seam}
use Rattle.std.proofs.lemmas.Grind.{flat_map-append}
use Rattle.std.proofs.lemmas.List.Folds.{flat_map-map}
use Rattle.std.proofs.Math.Pow.{pow_mono}
use Rattle.silt_trie.proofs.KeyBits.{bit_small}
use Rattle.silt_trie.proofs.Codes.{short_code, split_code, left_within, length_rights, stands_left, stands_right, bytes_lefts, bytes_rights}
use Rattle.silt_trie.proofs.Sides.{divides, lefts_codable, rights_codable}

-- the code of a group is its number and the codes of both sides, also if it has none
head_split : (keys : List (List ℕ)) (d : ℕ) → IsCodable keys d → d < 160
    → trie_code keys d ≡ head_code 0 keys d ++ trie_code (with_bit 0 d keys) (d + 1) ++ trie_code (with_bit 1 d keys) (d + 1)
head_split keys d codable within = elim (cases_lt (length keys) 2) [
  | inl few ↦
      search (arith, left_within, length_rights, short_code, lt-leb)
  | inr many ↦ cc (split_code keys d many within, le-leb 2 (length keys) many)
]

-- and so are the codes of groups
pub grouped_split : (g : ℕ) (keys : List (List ℕ)) (d : ℕ) → IsCodable keys d → d < 160
    → grouped_code g keys d ≡ head_code g keys d ++ grouped_code (g - 1) (with_bit 0 d keys) (d + 1) ++ grouped_code (g - 1) (with_bit 1 d keys) (d + 1)
grouped_split g keys d codable within = search (arith, head_split)

-- there is a mark for each prefix
pub length-marks_of : (m g : ℕ) (keys : List (List ℕ)) (d start place : ℕ) → length (marks_of m g keys d start place) ≡ 2 ^ m
length-marks_of zero g keys d start place = refl
length-marks_of (suc m) g keys d start place = simp (length-append, length-marks_of m) (omega (arith, pow-succ' 2 m))

-- the first mark has the place of the first key
first_mark : (m g : ℕ) (keys : List (List ℕ)) (d start place : ℕ) (more : List Mark) (other : Mark) → let first = get_or (marks_of m g keys d start place ++ more) 0 other in
    (first.place ≡ place) × (start ≤ first.start)
first_mark zero g keys d start place more other = (refl, omega arith)
first_mark (suc m) g keys d start place more other = search (arith, first_mark m (g - 1), append_assoc)

-- What a mark means for the keys with a prefix, if the code of all keys begins at `start`, `place` keys come before them, and e is
-- the depth behind the prefix
pub record Marked (p : List ℕ) (d e start place : ℕ) (bits : List ℕ) (keys : List (List ℕ)) (mark next : Mark) : Type 0 where
  pub codable : IsCodable (sub_keys keys d p) e
  pub front : List ℕ
  pub back : List ℕ
  pub code : bits ≡ front ++ (trie_code (sub_keys keys d p) e ++ back)
  pub begins : mark.start ≡ start + length front
  pub upto : mark.start + length (trie_code (sub_keys keys d p) e) ≤ next.start
  pub count : next.place ≡ mark.place + length (sub_keys keys d p)
  pub stands : (i : ℕ) (key : List ℕ) → StandsAt keys i key → prefix_of (length p) d key ≡ p → (mark.place ≤ place + i) × StandsAt (sub_keys keys d p) (place + i - mark.place) key
  pub skips : mark.skips ≡ skips_of skip_levels (sub_keys keys d p) e
  pub from : (i : ℕ) → i < length (sub_keys keys d p) → (place ≤ mark.place + i) × StandsAt keys (mark.place + i - place) (get_or (sub_keys keys d p) i [])
      × (prefix_of (length p) d (get_or (sub_keys keys d p) i []) ≡ p)

-- a key on the left is one of all keys
from_left : (d i : ℕ) (key : List ℕ) (keys : List (List ℕ)) → IsCodable keys d → StandsAt (with_bit 0 d keys) i key → StandsAt keys i key × (bit_of d key ≡ 0)
from_left d i key keys codable stands = search (arith, divides, get_or-take)

-- and so is a key on the right, after those on the left
from_right : (d i : ℕ) (key : List ℕ) (keys : List (List ℕ)) → IsCodable keys d → StandsAt (with_bit 1 d keys) i key → StandsAt keys (length (with_bit 0 d keys) + i) key × (bit_of d key ≡ 1)
from_right d i key keys codable stands = search (arith, divides, length_rights, get_or-drop)

-- a mark of the keys on the left is one of all keys
marked_left : (p : List ℕ) (d e start place : ℕ) (bits head lefts rights : List ℕ) (keys : List (List ℕ)) (mark next : Mark) → IsCodable keys d → bits ≡ head ++ lefts ++ rights
    → Marked p (d + 1) e (start + length head) place lefts (with_bit 0 d keys) mark next → Marked (0 ∷ p) d e start place bits keys mark next
marked_left p d e start place bits head lefts rights keys mark next codable parts inside =
    let count = length-append head inside.front in
    record {
      codable = inside.codable;
      front = head ++ inside.front;
      back = inside.back ++ rights;
      code = simp (parts, inside.code, append_assoc);
      begins = omega arith;
      upto = inside.upto;
      count = inside.count;
      skips = inside.skips;
      stands = λ i key stands same. inside.stands i key (stands_left d i key keys codable stands (cc)) (cc);
      from = λ i h.
          let found = inside.from i h in
          let here = from_left d (mark.place + i - place) (get_or (sub_keys (with_bit 0 d keys) (d + 1) p) i []) keys codable found.1 in
          (found.0, here.0, cc (here.1, found.2));
    }

-- and so is a mark of the keys on the right
marked_right : (p : List ℕ) (d e start place : ℕ) (bits head lefts rights : List ℕ) (keys : List (List ℕ)) (mark next : Mark) → IsCodable keys d → bits ≡ head ++ lefts ++ rights
    → Marked p (d + 1) e (start + length head + length lefts) (place + length (with_bit 0 d keys)) rights (with_bit 1 d keys) mark next → Marked (1 ∷ p) d e start place bits keys mark next
marked_right p d e start place bits head lefts rights keys mark next codable parts inside =
    let n = length (with_bit 0 d keys) in
    let below = sub_keys (with_bit 1 d keys) (d + 1) p in
    let one = length-append (head ++ lefts) inside.front in
    let two = length-append head lefts in
    record {
      codable = inside.codable;
      front = head ++ lefts ++ inside.front;
      back = inside.back;
      code = simp (parts, inside.code, append_assoc);
      begins = omega arith;
      upto = inside.upto;
      count = inside.count;
      skips = inside.skips;
      stands = λ i key stands same.
          let one_bit : bit_of d key ≡ 1 = cc in
          let right = stands_right d i key keys codable stands (λ e. absurd (omega arith)) in
          let found = inside.stands (i - n) key right.1 (cc) in
          search arith;
      from = λ i h.
          let found = inside.from i h in
          let here = from_right d (mark.place + i - (place + n)) (get_or below i []) keys codable found.1 in
          search arith;
    }

-- each mark is one, if the marks that follow begin behind all keys
pub marked : (p : List ℕ) (g d e start place : ℕ) (keys : List (List ℕ)) (more : List Mark) (other : Mark) → AreBits p → IsCodable keys d → g ≤ length p → d + length p ≡ e → e ≤ 160
    → (get_or more 0 other).place ≡ place + length keys
    → start + length (grouped_code g keys d) ≤ (get_or more 0 other).start
    → Marked p d e start place (grouped_code g keys d) keys (get_or (marks_of (length p) g keys d start place ++ more) (number_of_bits p) other)
    (get_or (marks_of (length p) g keys d start place ++ more) (number_of_bits p + 1) other)
marked [] g d e start place keys more other bits codable groups deep within last behind_all =
    let same : e ≡ d = omega arith in
    let none : g ≡ 0 = omega arith in
    let there : (i : ℕ) → place + i - place ≡ i = λ i. omega arith in
    rw (same, none) (record {
      codable = codable;
      front = [];
      back = [];
      code = sym (append-nil (trie_code keys d));
      begins = omega arith;
      upto = rw none at behind_all;
      count = last;
      skips = refl;
      stands = λ i key stands same. (omega arith, rw there stands);
      from = λ i h. (omega arith, rw there (h, refl), refl);
    })
marked (zero ∷ p) g d e start place keys more other bits codable groups deep within last behind_all =
    let behind = start + length (head_code g keys d) in
    let lefts = with_bit 0 d keys in
    let deeper = behind + length (grouped_code (g - 1) lefts (d + 1)) in
    let one = marks_of (length p) (g - 1) lefts (d + 1) behind place in
    let two = marks_of (length p) (g - 1) (with_bit 1 d keys) (d + 1) deeper (place + length lefts) in
    let first = first_mark (length p) (g - 1) (with_bit 1 d keys) (d + 1) deeper (place + length lefts) more other in
    let inside = marked p (g - 1) (d + 1) e behind place lefts (two ++ more) other (λ i. bits (suc i)) (lefts_codable d keys codable) (omega arith) (omega arith) within first.0 first.1 in
    let number : number_of_bits (0 ∷ p) ≡ number_of_bits p = omega arith in
    rw (append_assoc one two more, number) (marked_left p d e start place _ _ _ _ keys _ _ codable (grouped_split g keys d codable (omega arith)) inside)
marked (suc zero ∷ p) g d e start place keys more other bits codable groups deep within last behind_all =
    let behind = start + length (head_code g keys d) in
    let lefts = with_bit 0 d keys in
    let code = grouped_code (g - 1) lefts (d + 1) in
    let deeper = behind + length code in
    let rights = with_bit 1 d keys in
    let one = marks_of (length p) (g - 1) lefts (d + 1) behind place in
    let two = marks_of (length p) (g - 1) rights (d + 1) deeper (place + length lefts) in
    let upto = left_within d keys codable in
    let others = length_rights d keys codable in
    let split = ap length (grouped_split g keys d codable (omega arith)) in
    let head_left = length-append (head_code g keys d) code in
    let all_three = length-append (head_code g keys d ++ code) (grouped_code (g - 1) rights (d + 1)) in
    let inside = marked p (g - 1) (d + 1) e deeper (place + length lefts) rights more other (λ i. bits (suc i)) (rights_codable d keys codable)
    (omega arith) (omega arith) within (omega arith) (omega arith) in
    let count = length-marks_of (length p) (g - 1) lefts (d + 1) behind place in
    let number : number_of_bits (1 ∷ p) ≡ length one + number_of_bits p = omega arith in
    let next : length one + number_of_bits p + 1 ≡ length one + (number_of_bits p + 1) = omega arith in
    rw (append_assoc one two more, number, next, get_or-append-add one (two ++ more) (number_of_bits p) other, get_or-append-add one (two ++ more) (number_of_bits p + 1) other)
    (marked_right p d e start place _ _ _ _ keys _ _ codable (grouped_split g keys d codable (omega arith)) inside)
marked (suc (suc b) ∷ p) g d e start place keys more other bits codable groups deep within last behind_all = let small = bits 0 in absurd (omega arith)

-- bits behind some others
drop_front : (n : ℕ) (front rest bits : List ℕ) → n ≡ length front → bits ≡ front ++ rest → drop n bits ≡ rest
drop_front n front rest bits e is = rw (is, e) (drop-append_seam front rest)

-- the law of marks
pub mark_law : MarkLaw
mark_law g d keys prefix last other codable bits groups within count last_start =
    let found = marked prefix g d (d + length prefix) 0 0 keys (last ∷ []) other bits codable groups refl within (omega arith) (omega arith) in
    let none : (n : ℕ) → n - 0 ≡ n = λ n. omega arith in
    record {
      codable = found.codable;
      count = found.count;
      stands = λ i key stands same. let e : 0 + i ≡ i = omega arith in rw e at (found.stands i key stands same);
      from = λ i h. let there = found.from i h in (rw none at there.1, there.2);
      code = (found.back, drop_front _ found.front _ _ (omega (arith, found.begins)) found.code);
      upto = found.upto;
      skips = found.skips;
    }

-- the bits of a key are bits
pub prefix_bits : (m d : ℕ) (key : List ℕ) → AreBits (prefix_of m d key)
prefix_bits zero d key i = omega arith
prefix_bits (suc m) d key zero = bit_small d key
prefix_bits (suc m) d key (suc i) = prefix_bits m (d + 1) key i

-- there are as many as are asked for
pub length-prefix_of : (m d : ℕ) (key : List ℕ) → length (prefix_of m d key) ≡ m
length-prefix_of zero d key = refl
length-prefix_of (suc m) d key = ap suc (length-prefix_of m (d + 1) key)

-- they write a number of as many bits
pub number_small : (p : List ℕ) → AreBits p → number_of_bits p < 2 ^ length p
number_small [] bits = omega arith
number_small (zero ∷ p) bits = let rest = number_small p (λ i. bits (suc i)) in let double = pow-succ' 2 (length p) in omega arith
number_small (suc zero ∷ p) bits = let rest = number_small p (λ i. bits (suc i)) in let double = pow-succ' 2 (length p) in omega arith
number_small (suc (suc b) ∷ p) bits = let small = bits 0 in absurd (omega arith)

-- the number of a prefix of at most 24 bits
pub prefix_small : (m d at : ℕ) (key : List ℕ) → m ≤ 24 → at ≡ number_of_bits (prefix_of m d key) → at < 16777216
prefix_small m d at key few is =
    let small = number_small (prefix_of m d key) (prefix_bits m d key) in
    let most : 2 ^ m ≤ 2 ^ 24 = pow_mono few in
    omega (arith, rw (length-prefix_of m d key) at small)

-- the mark of a key and the next one are there
pub in_range : (made : MarkedCode) (keys : List (List ℕ)) (at : ℕ) (key : List ℕ) → IsMadeOf keys made → at ≡ number_of_bits (prefix_of made.levels made.depth key) → at + 1 < length made.marks
in_range made keys at key is at_is = search (arith, length-prefix_of, number_small, prefix_bits, length-append, length-marks_of)

-- between a key's mark and the next one is the key's place
pub located : (made : MarkedCode) (keys : List (List ℕ)) (i at : ℕ) (key : List ℕ) (mark next : Mark) (found : Option ℕ)
    → IsMadeOf keys made → StandsAt keys i key → made.depth + made.levels ≤ 160 → made.groups ≤ made.levels
    → at ≡ number_of_bits (prefix_of made.levels made.depth key) → mark ≡ get_or made.marks at mark → next ≡ get_or made.marks (at + 1) next
    → IsPlaceBetween made.code mark next (made.depth + made.levels) key found → found ≡ Some i
located made keys i at key mark next found is stands within groups at_is mark_is next_is place =
    let d = made.depth in
    let g = made.groups in
    let p = prefix_of made.levels d key in
    let size = length-prefix_of made.levels d key in
    let last : Mark = mark_behind made.code (length keys) in
    let marks = marks_of (length p) g keys d 0 0 ++ last ∷ [] in
    let one : get_or marks (number_of_bits p) mark ≡ mark = cc in
    let two : get_or marks (number_of_bits p + 1) mark ≡ next = cc (get_or_default made.marks (at + 1) mark next (in_range made keys at key is at_is)) in
    let all = marked p g d (d + made.levels) 0 0 keys (last ∷ []) mark (prefix_bits made.levels d key) is.codable (omega arith)
    (omega arith) within (omega arith) (let size = ap length is.code_is in omega arith) in
    let here : Marked p d (d + made.levels) 0 0 (grouped_code g keys d) keys mark next = rw (one, two) at all in
    let inside = here.stands i key stands (ap (λ (n : ℕ). prefix_of n d key) size) in
    let e : mark.place + (0 + i - mark.place) ≡ i = omega arith in
    place (sub_keys keys d p) (0 + i - mark.place) here.back here.codable here.count here.upto
    (drop_front mark.start here.front _ made.code (omega (arith, here.begins)) (is.code_is ∙ here.code)) here.skips inside.1 ∙ ap (λ (j : ℕ). Some j) e

-- the code of keys, written part by part
pub code_marked : (g h d left : ℕ) (keys lefts rights : List Key) (old first second third : List ℕ) → IsCodable (bytes_of keys) d
    → d < 160 → h ≡ g - 1 → left ≡ length (with_bit 0 d (bytes_of keys)) → lefts ≡ take left keys → rights ≡ drop left keys
    → first ≡ old ++ head_code g (bytes_of keys) d → second ≡ first ++ grouped_code h (bytes_of lefts) (d + 1) → third ≡ second
    ++ grouped_code h (bytes_of rights) (d + 1) → third ≡ old ++ grouped_code g (bytes_of keys) d
code_marked g h d left keys lefts rights old first second third codable within next count front back one two three =
    search (arith, bytes_lefts, bytes_rights, back, grouped_split, append_assoc)

-- and their marks
pub marks_marked : (m g h d left place : ℕ) (keys lefts rights : List Key) (old first second : List ℕ) (marks one two : List Mark)
    → IsCodable (bytes_of keys) d → 0 < m → h ≡ g - 1 → left ≡ length (with_bit 0 d (bytes_of keys)) → lefts ≡ take left keys → rights ≡ drop left keys
    → first ≡ old ++ head_code g (bytes_of keys) d → second ≡ first ++ grouped_code h (bytes_of lefts) (d + 1)
    → one ≡ marks ++ marks_of (m - 1) h (bytes_of lefts) (d + 1) (length first) place → two ≡ one ++ marks_of (m - 1) h (bytes_of rights) (d + 1) (length second) (place + left)
    → two ≡ marks ++ marks_of m g (bytes_of keys) d (length old) place
marks_marked m g h d left place keys lefts rights old first second marks one two codable some next count front back first_is second_is one_is two_is =
    search (arith, bytes_lefts, bytes_rights, back, length-append, append_assoc)

-- one bit more of a number
pub number_step : (n rest less at bit : ℕ) (key : List ℕ) (all : ℕ) → bit ≡ bit_of at key → rest ≡ suc less
    → all ≡ n * 2 ^ rest + number_of_bits (prefix_of rest at key) → all ≡ (2 * n + bit) * 2 ^ less + number_of_bits (prefix_of less (at + 1) key)
number_step n rest less at bit key all bit_is e is =
    let size = length-prefix_of less (at + 1) key in
    let split : number_of_bits (prefix_of rest at key) ≡ bit * 2 ^ less + number_of_bits (prefix_of less (at + 1) key) = cc in
    let double : n * 2 ^ rest ≡ n * (2 * 2 ^ less) = cc (pow-succ' 2 less) in
    search arith

-- and it has one bit more
pub number_grows : (n before after bit : ℕ) → n < 2 ^ before → bit < 2 → after ≡ suc before → 2 * n + bit < 2 ^ after
number_grows n before after bit small one e = let double = ap (λ (k : ℕ). 2 ^ k) e ∙ pow-succ' 2 before in omega arith

-- the code in groups, with e as the depth behind them
groups_at : (g d e : ℕ) (keys : List (List ℕ)) → d + g ≡ e → grouped_code g keys d ≡ flat_map (λ prefix. trie_code (sub_keys keys d prefix) e) (prefixes g)
groups_at zero d e keys deep = let same : e ≡ d = omega arith in rw same (sym (append-nil (trie_code keys d)))
groups_at (suc g) d e keys deep = search (arith, groups_at g (d + 1) e (with_bit 0 d keys), groups_at g (d + 1) e (with_bit 1 d keys), flat_map-append, flat_map-map)

-- the law of groups
pub groups_law : GroupsLaw
groups_law g d keys = groups_at g d (d + g) keys refl

-- bits cut at two places, which may lie past their end, have all of a code between these
pub cut : (s e start end : ℕ) (bits part code rest : List ℕ) → part ≡ take (end - start) (drop start bits) → start ≡ min s (length bits)
    → end ≡ max (min e (length bits)) start → drop s bits ≡ code ++ rest → s + length code ≤ e
    → (more : List ℕ) × (part ≡ code ++ more)
cut s e start end bits part code rest part_is start_is end_is is upto =
    let size = sym (length-drop s bits) ∙ ap length is ∙ length-append code rest in
    let from : drop start bits ≡ drop s bits = elim (cases_lt s (length bits)) [
      | inl inside ↦ let same : start ≡ s = omega arith in rw same
      | inr past ↦ drop_of_length-le bits (omega arith) ∙ sym (drop_of_length-le bits past)
    ] in
    let size_is : end - start ≡ length code + (end - start - length code) = omega arith in
    (take (end - start - length code) rest, cc (take-append-add code rest (end - start - length code)))
