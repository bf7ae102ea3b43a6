-- Lemmas on the code of a trie.
use Rattle.silt_trie.proofs.Common.{◌≡◌, ℕ, suc, ◌+◌, ◌-◌, ◌<◌, ◌≤◌, List, [], ◌++◌, length, take, drop, get_or, refl, ap, ◌∙◌, inl, inr, arith, length-drop, cases_lt, BeginsWithCode, bit_of}
use Rattle.silt_trie.proofs.Common.{with_bit, trie_code, Follows, IsCodable, StandsAt, bytes_of, Key, ◌⊎◌, append_assoc, get_or-take, get_or-drop, take-map, drop-map, get_or-map, length-map}
use Rattle.silt_trie.proofs.Common.{gamma_code}
use Rattle.silt_trie.specs.Code.{code_within}
use Rattle.silt_trie.proofs.Order.{not_tied}
use Rattle.silt_trie.proofs.Sides.{divides}

-- fewer than two keys have no code
short_within : (rest : ℕ) (keys : List (List ℕ)) (d : ℕ) → length keys < 2 → code_within rest keys d ≡ []
unfolding code_within
short_within rest keys d few = search arith

-- the code of two keys or more, by its parts
split_within : (rest : ℕ) (keys : List (List ℕ)) (d : ℕ) → 2 ≤ length keys
    → code_within (suc rest) keys d ≡ gamma_code (length (with_bit 0 d keys) + 1) ++ code_within rest (with_bit 0 d keys) (d + 1) ++ code_within rest (with_bit 1 d keys) (d + 1)
unfolding code_within
split_within rest keys d many = search arith

-- keys with no bits left have no code
none_within : (keys : List (List ℕ)) (d : ℕ) → code_within 0 keys d ≡ []
unfolding code_within
none_within keys d = refl

-- fewer than two keys, or keys with no bits left, have no code
pub short_code : (keys : List (List ℕ)) (d : ℕ) → length keys < 2 → trie_code keys d ≡ []
short_code keys d few = short_within (160 - d) keys d few

-- nor have keys with no bits left
pub deep_code : (keys : List (List ℕ)) (d : ℕ) → 160 ≤ d → trie_code keys d ≡ []
deep_code keys d deep = let e : 160 - d ≡ 0 = omega arith in ap (λ (rest : ℕ). code_within rest keys d) e ∙ none_within keys d

-- the code of keys is a number and the codes of both sides
pub split_code : (keys : List (List ℕ)) (d : ℕ) → 2 ≤ length keys → d < 160
    → trie_code keys d ≡ gamma_code (length (with_bit 0 d keys) + 1) ++ trie_code (with_bit 0 d keys) (d + 1) ++ trie_code (with_bit 1 d keys) (d + 1)
split_code keys d many within =
    let e : 160 - d ≡ suc (160 - (d + 1)) = omega arith in
    ap (λ (rest : ℕ). code_within rest keys d) e ∙ split_within (160 - (d + 1)) keys d many

-- bits that begin with the code of keys begin with the number on their left, and go on with the codes of both sides
pub node : (keys : List (List ℕ)) (d : ℕ) (bits rest : List ℕ) → IsCodable keys d → 2 ≤ length keys → d < 160 → bits ≡ trie_code keys d ++ rest
    → BeginsWithCode bits (length (with_bit 0 d keys) + 1) (trie_code (with_bit 0 d keys) (d + 1) ++ (trie_code (with_bit 1 d keys) (d + 1) ++ rest))
node keys d bits rest codable many within is =
    let inside = (divides d keys codable).within in
    record { in_range = (omega arith, omega arith); split = simp (is, split_code keys d many within, append_assoc) }

-- how many keys are on the right
pub length_rights : (d : ℕ) (keys : List (List ℕ)) → IsCodable keys d → length (with_bit 1 d keys) ≡ length keys - length (with_bit 0 d keys)
length_rights d keys codable = rw ((divides d keys codable).rights, length-drop)

-- no more keys are on the left than there are
pub left_within : (d : ℕ) (keys : List (List ℕ)) → IsCodable keys d → length (with_bit 0 d keys) ≤ length keys
left_within d keys codable = (divides d keys codable).within

-- a key with bit 0 has its place on the left; one with bit 1 comes after these, on the right
pub stands_left : (d i : ℕ) (key : List ℕ) (keys : List (List ℕ)) → IsCodable keys d → StandsAt keys i key → bit_of d key ≡ 0 → StandsAt (with_bit 0 d keys) i key
stands_left d i key keys codable stands low =
    let m = length (with_bit 0 d keys) in
    let split = divides d keys codable in
    search (arith, cases_lt, get_or-take, split.ones)

-- a key with bit 1 is on the right, after those on the left
pub stands_right : (d i : ℕ) (key : List ℕ) (keys : List (List ℕ)) → IsCodable keys d → StandsAt keys i key → (bit_of d key ≡ 0 → ⊥)
    → (length (with_bit 0 d keys) ≤ i) × StandsAt (with_bit 1 d keys) (i - length (with_bit 0 d keys)) key
stands_right d i key keys codable stands high = search (arith, divides, length_rights, cases_lt, get_or-drop)

-- keys that agree in all their bits are one key
pub deep_few : (d : ℕ) (keys : List (List ℕ)) → IsCodable keys d → 160 ≤ d → length keys < 2
deep_few d keys codable deep = elim (cases_lt (length keys) 2) [
  | inl few ↦ few
  | inr many ↦
      let next = codable.rising 0 (omega arith) in
      absurd (not_tied d _ _ (λ k h. next.alike k (omega arith)) next)
]

-- the two parts of a slice of keys are the two sides
pub bytes_lefts : (d left : ℕ) (keys lefts : List Key) → IsCodable (bytes_of keys) d → left ≡ length (with_bit 0 d (bytes_of keys))
    → lefts ≡ take left keys → bytes_of lefts ≡ with_bit 0 d (bytes_of keys)
bytes_lefts d left keys lefts codable count is = search (arith, take-map, divides)

-- the second part of a slice of keys is the right side
pub bytes_rights : (d left : ℕ) (keys rights : List Key) → IsCodable (bytes_of keys) d → left ≡ length (with_bit 0 d (bytes_of keys))
    → rights ≡ drop left keys → bytes_of rights ≡ with_bit 1 d (bytes_of keys)
bytes_rights d left keys rights codable count is = search (arith, drop-map, divides)

-- a key by its place
pub bytes_at : (keys : List Key) (i : ℕ) (key : Key) → i < length keys → get_or (bytes_of keys) i [] ≡ (get_or keys i key).0
bytes_at keys i key h = get_or-map (λ (k : Key). k.0) keys i key [] h

-- there are as many keys as lists of bytes
pub length-bytes_of : (keys : List Key) → length (bytes_of keys) ≡ length keys
length-bytes_of keys = length-map keys (λ (key : Key). key.0)

-- the code of keys, written part by part
pub written : (d left : ℕ) (keys : List Key) (lefts rights : List Key) (old first second third : List ℕ) → IsCodable (bytes_of keys) d
    → 2 ≤ length keys → d < 160 → left ≡ length (with_bit 0 d (bytes_of keys))
    → lefts ≡ take left keys → rights ≡ drop left keys → first ≡ old ++ gamma_code (left + 1) → second ≡ first ++ trie_code (bytes_of lefts) (d + 1)
    → third ≡ second ++ trie_code (bytes_of rights) (d + 1)
    → third ≡ old ++ trie_code (bytes_of keys) d
written d left keys lefts rights old first second third codable many within count front back one two three =
    let ls = trie_code (bytes_of lefts) (d + 1) in
    let rs = trie_code (bytes_of rights) (d + 1) in
    let l = bytes_lefts d left keys lefts codable count front in
    let r = bytes_rights d left keys rights codable count back in
    search (arith, split_code, length-bytes_of, append_assoc)

-- bits behind a code that is empty
pub after_none : (keys : List (List ℕ)) (d : ℕ) (bits rest : List ℕ) → IsCodable keys d → (length keys < 2) ⊎ (160 ≤ d) → bits ≡ trie_code keys d ++ rest → bits ≡ rest
after_none keys d bits rest codable (inl few) is = cc (short_code keys d few)
after_none keys d bits rest codable (inr deep) is = cc (deep_code keys d deep)

-- the only key is the first
pub only_place : (keys : List (List ℕ)) (d i : ℕ) (key : List ℕ) → IsCodable keys d → (length keys < 2) ⊎ (160 ≤ d) → StandsAt keys i key → 0 ≡ i
only_place keys d i key codable (inl few) stands = let within = stands.0 in omega arith
only_place keys d i key codable (inr deep) stands = let few = deep_few d keys codable deep in let within = stands.0 in omega arith

-- neighbours among keys are neighbours among their bytes
pub follows_at : (d i : ℕ) (keys : List Key) (key : Key) → 1 ≤ i → i < length keys → Follows d (get_or keys (i - 1) key).0 (get_or keys i key).0
    → Follows d (get_or (bytes_of keys) (i - 1) []) (get_or (bytes_of keys) (i - 1 + 1) [])
follows_at d i keys key some within next =
    let e : i - 1 + 1 ≡ i = omega arith in
    rw (e, bytes_at keys (i - 1) key (omega arith), bytes_at keys i key within) next

-- neighbours among keys that can be coded follow one another
pub at_follows : (d i : ℕ) (keys : List Key) (key : Key) → 1 ≤ i → i < length keys → IsCodable (bytes_of keys) d → Follows d (get_or keys (i - 1) key).0 (get_or keys i key).0
at_follows d i keys key some within codable =
    let e : i - 1 + 1 ≡ i = omega arith in
    let size = length-bytes_of keys in
    let next = codable.rising (i - 1) (omega arith) in
    rw (e, bytes_at keys (i - 1) key (omega arith), bytes_at keys i key within) at next
