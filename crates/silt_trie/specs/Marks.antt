-- Marks into the codes of groups of keys: they give where the codes of parts of the keys begin.
use Rattle.std.specs.Prelude.{◌≡◌, ℕ, zero, suc, ◌+◌, ◌-◌, ◌*◌, ◌^◌, ◌<◌, ◌≤◌, nat_le, min, if◌then◌else◌, List, [], ◌∷◌, ◌++◌, length, map, drop, replicate}
use Rattle.std.specs.Prelude.{slice_index, slice_index_or, Option, Some, IfSome}
use Rattle.std.specs.List.{flat_map}
use Rattle.silt_gamma.specs.Gamma.{gamma_code}
use Rattle.silt_trie.specs.Code.{IsCodable, StandsAt, bit_of, trie_code, with_bit}
use Rattle.silt_trie.specs.declared.marks.Mark.{Mark}

-- the m bits of a key from d on
abbrev pub prefix_of : ℕ → ℕ → List ℕ → List ℕ
prefix_of zero d key = []
prefix_of (suc m) d key = bit_of d key ∷ prefix_of m (d + 1) key

-- the number that these bits make, the highest first
abbrev pub number_of_bits : List ℕ → ℕ
number_of_bits [] = 0
number_of_bits (bit ∷ bits) = bit * 2 ^ length bits + number_of_bits bits

-- each is 0 or 1
abbrev pub AreBits : List ℕ → Type 0
AreBits bits = (i : ℕ) → slice_index bits i < 2

-- the keys whose bits from d on begin with this prefix
abbrev pub sub_keys : List (List ℕ) → ℕ → List ℕ → List (List ℕ)
sub_keys keys d [] = keys
sub_keys keys d (bit ∷ prefix) = sub_keys (with_bit bit d keys) (d + 1) prefix

-- the codes of the groups that the next g bits make of keys, one behind the other
abbrev pub grouped_code : ℕ → List (List ℕ) → ℕ → List ℕ
grouped_code zero keys d = trie_code keys d
grouped_code (suc g) keys d = grouped_code g (with_bit 0 d keys) (d + 1) ++ grouped_code g (with_bit 1 d keys) (d + 1)

-- what comes before the codes of both sides: in a group of two keys or more, the code of the number on the left plus one
abbrev pub head_code : ℕ → List (List ℕ) → ℕ → List ℕ
head_code zero keys d = if nat_le 2 (length keys) then gamma_code (length (with_bit 0 d keys) + 1) else []
head_code (suc g) keys d = []

-- how many bits after its prefix a mark covers
abbrev pub skip_levels : ℕ
skip_levels = 5

-- how many bits the code of keys takes, if fewer than 65,535
abbrev pub skip_over : List (List ℕ) → ℕ → ℕ
skip_over keys d = min (length (trie_code keys d)) 65535

-- How many bits the code of the keys on the left takes: of all keys, and then of both parts that the next bit makes of
-- them, and so on for m bits, the left part with all its parts first.
unfoldable pub skips_of : ℕ → List (List ℕ) → ℕ → List ℕ
skips_of zero keys d = []
skips_of (suc m) keys d = skip_over (with_bit 0 d keys) (d + 1) ∷ (skips_of m (with_bit 0 d keys) (d + 1) ++ skips_of m (with_bit 1 d keys) (d + 1))

-- the skip over the code of these keys, or none
abbrev pub IsSkipOf : List (List ℕ) → ℕ → Option ℕ → Type 0
IsSkipOf keys d skip = IfSome skip (λ n. n ≡ skip_over keys d)

-- the skips of keys, divided: the one over the left side, those into it, and those into the right side
pub record AreSkipsInto (m : ℕ) (keys : List (List ℕ)) (d : ℕ) (skip : Option ℕ) (lefts rights : List ℕ) : Type 0 where
  pub over : IsSkipOf (with_bit 0 d keys) (d + 1) skip
  pub left : lefts ≡ skips_of (m - 1) (with_bit 0 d keys) (d + 1)
  pub right : rights ≡ skips_of (m - 1) (with_bit 1 d keys) (d + 1)

-- if bits begin with the code of so many keys, and the skips are theirs, this is the place of a key that is one of them
abbrev pub IsPlaceBySkips : List ℕ → ℕ → ℕ → List ℕ → List ℕ → ℕ → Type 0
IsPlaceBySkips bits count depth skips key place =
    (m : ℕ) (keys : List (List ℕ)) (i : ℕ) (rest : List ℕ)
    → IsCodable keys depth → length keys ≡ count → bits ≡ trie_code keys depth ++ rest → skips ≡ skips_of m keys depth → StandsAt keys i key → place ≡ i

-- the marks of all prefixes of m bits from d on, by their numbers: the code of the keys, grouped by g bits, begins at `start`,
-- and `place` keys come before them
abbrev pub marks_of : ℕ → ℕ → List (List ℕ) → ℕ → ℕ → ℕ → List Mark
marks_of zero g keys d start place = record { start = start; place = place; skips = skips_of skip_levels keys d } ∷ []
marks_of (suc m) g keys d start place =
    let lefts = with_bit 0 d keys in
    let rights = with_bit 1 d keys in
    let behind = start + length (head_code g keys d) in
    marks_of m (g - 1) lefts (d + 1) behind place ++ marks_of m (g - 1) rights (d + 1) (behind + length (grouped_code (g - 1) lefts (d + 1))) (place + length lefts)

-- the mark behind all keys, if there are so many, and this is their code
abbrev pub mark_behind : List ℕ → ℕ → Mark
mark_behind code count = record { start = length code; place = count; skips = replicate (2 ^ skip_levels - 1) 0 }

-- What a mark into bits means for the keys with a prefix, if `next` is the mark that follows: the difference in `next` is their
-- number, they are the keys from `place` on, and from bit `start` on the bits begin with their code. That code ends before that
-- of `next` begins. The skips are those of these keys.
pub record IsMark (bits : List ℕ) (keys : List (List ℕ)) (d : ℕ) (prefix : List ℕ) (mark next : Mark) : Type 0 where
  pub codable : IsCodable (sub_keys keys d prefix) (d + length prefix)
  pub count : next.place ≡ mark.place + length (sub_keys keys d prefix)
  pub stands : (i : ℕ) (key : List ℕ) → StandsAt keys i key → prefix_of (length prefix) d key ≡ prefix → (mark.place ≤ i) × StandsAt (sub_keys keys d prefix) (i - mark.place) key
  pub from : (i : ℕ) → i < length (sub_keys keys d prefix) → StandsAt keys (mark.place + i) (slice_index_or (sub_keys keys d prefix) i [])
      × (prefix_of (length prefix) d (slice_index_or (sub_keys keys d prefix) i []) ≡ prefix)
  pub code : (rest : List ℕ) × (drop mark.start bits ≡ trie_code (sub_keys keys d prefix) (d + length prefix) ++ rest)
  pub upto : mark.start + length (trie_code (sub_keys keys d prefix) (d + length prefix)) ≤ next.start
  pub skips : mark.skips ≡ skips_of skip_levels (sub_keys keys d prefix) (d + length prefix)

-- the marks of keys, with one behind all keys, are marks into their code
abbrev pub MarkLaw : Type 0
MarkLaw =
    (g d : ℕ) (keys : List (List ℕ)) (prefix : List ℕ) (last other : Mark)
    → IsCodable keys d → AreBits prefix → g ≤ length prefix → d + length prefix ≤ 160 → last.place ≡ length keys → last.start ≡ length (grouped_code g keys d)
    → let marks = marks_of (length prefix) g keys d 0 0 ++ last ∷ [] in
    let at = number_of_bits prefix in
    IsMark (grouped_code g keys d) keys d prefix (slice_index_or marks at other) (slice_index_or marks (at + 1) other)

-- all prefixes of g bits, by their numbers
abbrev pub prefixes : ℕ → List (List ℕ)
prefixes zero = [] ∷ []
prefixes (suc g) = map (λ prefix. 0 ∷ prefix) (prefixes g) ++ map (λ prefix. 1 ∷ prefix) (prefixes g)

-- the code in groups is the code of the keys of each prefix in turn
abbrev pub GroupsLaw : Type 0
GroupsLaw = (g d : ℕ) (keys : List (List ℕ)) → grouped_code g keys d ≡ flat_map (λ prefix. trie_code (sub_keys keys d prefix) (d + g)) (prefixes g)

-- the code of grouped keys with marks of all prefixes of `levels` bits from `depth` on; it has no numbers for the first `groups` bits
pub record MarkedCode : Type 0 where
  pub code : List ℕ
  pub marks : List Mark
  pub count : ℕ
  pub depth : ℕ
  pub groups : ℕ
  pub levels : ℕ

-- the trie is made of the keys: it has their code, their marks and one mark behind all keys
pub record IsMadeOf (keys : List (List ℕ)) (made : MarkedCode) : Type 0 where
  pub codable : IsCodable keys made.depth
  pub code_is : made.code ≡ grouped_code made.groups keys made.depth
  pub marks_are : made.marks ≡ marks_of made.levels made.groups keys made.depth 0 0 ++ mark_behind made.code (length keys) ∷ []
  pub count_is : made.count ≡ length keys

-- this is the place of a key, if it is one of the keys of the trie
abbrev pub IsMarkedPlace : MarkedCode → List ℕ → Option ℕ → Type 0
IsMarkedPlace made key found = (keys : List (List ℕ)) (i : ℕ) → IsMadeOf keys made → StandsAt keys i key → found ≡ Some i

-- if the bits between two marks code keys at this depth, and the first mark's skips are theirs, this is the place of one of these keys
abbrev pub IsPlaceBetween : List ℕ → Mark → Mark → ℕ → List ℕ → Option ℕ → Type 0
IsPlaceBetween bits mark next depth key found =
    (keys : List (List ℕ)) (i : ℕ) (rest : List ℕ)
    → IsCodable keys depth → next.place ≡ mark.place + length keys → mark.start + length (trie_code keys depth) ≤ next.start → drop mark.start bits ≡ trie_code keys depth ++ rest
    → mark.skips ≡ skips_of skip_levels keys depth → StandsAt keys i key → found ≡ Some (mark.place + i)
