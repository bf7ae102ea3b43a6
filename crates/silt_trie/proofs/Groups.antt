-- Lemmas on keys whose groups come one after the other.
use Rattle.silt_trie.proofs.Common.{◌≡◌, ℕ, zero, suc, ◌+◌, ◌-◌, ◌*◌, ◌^◌, ◌<◌, ◌≤◌, List, [], ◌∷◌, ◌++◌, length, take, refl, sym, ap, ◌∙◌, inl, inr, arith, cases_eq, cases_lt, All-append}
use Rattle.silt_trie.proofs.Common.{pow-succ', bit_of, with_bit, trie_code, grouped_code, marks_of, number_of_bits, prefix_of, ◌==◌, All, pow-add, eqb-true, append_assoc, append-nil}
use Rattle.silt_trie.proofs.Common.{length-append, take_all, take-append-le, All-filter, All-head, All-tail, filter-append, filter_passes}
use Rattle.std.proofs.Math.Seq.{take-append-add}
use Rattle.silt_trie.proofs.Codes.{short_code}
use Rattle.silt_trie.proofs.KeyBits.{bit_small}
use Rattle.silt_trie.proofs.MarkedKeys.{length-marks_of, length-prefix_of, number_small, prefix_bits}
use Rattle.silt_trie.proofs.Sides.{kept, left_out}

-- the number that g bits of a key write
abbrev pub number_at : ℕ → ℕ → List ℕ → ℕ
number_at g d key = number_of_bits (prefix_of g d key)

-- it is the first bit and the number of the others
number_split : (g d : ℕ) (key : List ℕ) → number_at (suc g) d key ≡ bit_of d key * 2 ^ g + number_at g (d + 1) key
number_split g d key = ap (λ (k : ℕ). bit_of d key * 2 ^ k + number_at g (d + 1) key) (length-prefix_of g (d + 1) key)

-- it has no more bits
pub number_below : (g d : ℕ) (key : List ℕ) → number_at g d key < 2 ^ g
number_below g d key = rw (length-prefix_of g d key) at (number_small (prefix_of g d key) (prefix_bits g d key))

-- in the lower half the first bit is 0
low_half : (g d : ℕ) (key : List ℕ) → number_at (suc g) d key < 2 ^ g → (bit_of d key ≡ 0) × (number_at g (d + 1) key ≡ number_at (suc g) d key)
low_half g d key low =
    let split = number_split g d key in
    let small = bit_small d key in
    elim (cases_eq (bit_of d key) 0) [
      | inl zero_bit ↦ let none = ap (λ (b : ℕ). b * 2 ^ g) zero_bit in (zero_bit, omega arith)
      | inr other ↦ let one_bit : bit_of d key ≡ 1 = omega arith in let one = ap (λ (b : ℕ). b * 2 ^ g) one_bit in absurd (omega arith)
    ]

-- in the upper half it is 1
high_half : (g d : ℕ) (key : List ℕ) → 2 ^ g ≤ number_at (suc g) d key → (bit_of d key ≡ 1) × (2 ^ g + number_at g (d + 1) key ≡ number_at (suc g) d key)
high_half g d key high =
    let split = number_split g d key in
    let small = bit_small d key in
    let rest = number_below g (d + 1) key in
    elim (cases_eq (bit_of d key) 0) [
      | inl zero_bit ↦ let none = ap (λ (b : ℕ). b * 2 ^ g) zero_bit in absurd (omega arith)
      | inr other ↦ let one_bit : bit_of d key ≡ 1 = omega arith in let one = ap (λ (b : ℕ). b * 2 ^ g) one_bit in (one_bit, omega arith)
    ]

-- keys that all have this bit stay
all_kept : (bit d : ℕ) (keys : List (List ℕ)) → All (λ key. bit_of d key ≡ bit) keys → with_bit bit d keys ≡ keys
all_kept bit d [] all = refl
all_kept bit d (key ∷ keys) all = kept bit d key keys (All-head (λ key. bit_of d key ≡ bit) key keys all)
    ∙ ap (λ (ks : List (List ℕ)). key ∷ ks) (all_kept bit d keys (All-tail (λ key. bit_of d key ≡ bit) key keys all))

-- of keys that all have another bit none stays
none_kept : (bit other d : ℕ) (keys : List (List ℕ)) → (other ≡ bit → ⊥) → All (λ key. bit_of d key ≡ other) keys → with_bit bit d keys ≡ []
none_kept bit other d [] differ all = refl
none_kept bit other d (key ∷ keys) differ all =
    let here : bit_of d key ≡ other = All-head (λ key. bit_of d key ≡ other) key keys all in
    left_out bit d key keys (λ e. differ (sym here ∙ e)) ∙ none_kept bit other d keys differ (All-tail (λ key. bit_of d key ≡ other) key keys all)

-- if no key can have this bit, there is none
pub none_below : (P : List ℕ → Type 0) (keys : List (List ℕ)) → ((key : List ℕ) → P key → ⊥) → All P keys → keys ≡ []
none_below P [] never all = refl
none_below P (key ∷ keys) never all = absurd (never key (All-head P key keys all))

-- no keys have no code
pub grouped_none : (g d : ℕ) → grouped_code g [] d ≡ []
grouped_none zero d = short_code [] d (omega arith)
grouped_none (suc g) d = search (arith, grouped_none g (d + 1))

-- keys whose next bit is 0 are all on the left
low_group : (g d : ℕ) (keys : List (List ℕ)) → All (λ key. bit_of d key ≡ 0) keys → grouped_code (suc g) keys d ≡ grouped_code g keys (d + 1)
low_group g d keys low =
    let right = none_kept 1 0 d keys (λ e. absurd (omega arith)) low in
    cc (all_kept 0 d keys low, grouped_none g (d + 1), append-nil (grouped_code g keys (d + 1)))

-- keys with numbers in the lower half have bit 0, and behind it the same numbers
lows : (g d : ℕ) (P : ℕ → Type 0) (keys : List (List ℕ)) → ((n : ℕ) → P n → n < 2 ^ g) → All (λ key. P (number_at (suc g) d key)) keys
    → All (λ key. bit_of d key ≡ 0) keys × All (λ key. P (number_at g (d + 1) key)) keys
lows g d P keys below all = search (arith, low_half)

-- keys with one number in the upper half have bit 1, and behind it a number that is less by this
highs : (g n d : ℕ) (keys : List (List ℕ)) → 2 ^ g ≤ n → All (λ key. number_at (suc g) d key ≡ n) keys
    → All (λ key. bit_of d key ≡ 1) keys × All (λ key. number_at g (d + 1) key ≡ n - 2 ^ g) keys
highs g n d keys high all = search (arith, high_half)

-- those with bit 1 have lower numbers behind it
highs_lower : (g n d : ℕ) (keys : List (List ℕ)) → 2 ^ g ≤ n → All (λ key. number_at (suc g) d key < n) keys → All (λ key. number_at g (d + 1) key < n - 2 ^ g) (with_bit 1 d keys)
highs_lower g n d keys high all k other h =
    let lower = All-filter (λ key. bit_of d key == 1) (λ key. number_at (suc g) d key < n) keys all k other h in
    search (arith, filter_passes, eqb-true, number_split)

-- keys with bit 1 behind others change nothing on the left
lefts_stay : (d : ℕ) (xs ys : List (List ℕ)) → All (λ key. bit_of d key ≡ 1) ys → with_bit 0 d (xs ++ ys) ≡ with_bit 0 d xs
lefts_stay d xs ys high = rw (filter-append, none_kept 0 1 d ys (λ e. absurd (omega arith)) high) (append-nil (with_bit 0 d xs))

-- and come last on the right
rights_grow : (d : ℕ) (xs ys : List (List ℕ)) → All (λ key. bit_of d key ≡ 1) ys → with_bit 1 d (xs ++ ys) ≡ with_bit 1 d xs ++ ys
rights_grow d xs ys high = rw (filter-append, all_kept 1 d ys high)

-- each key is on one side
pub length_sides : (d : ℕ) (keys : List (List ℕ)) → length (with_bit 0 d keys) + length (with_bit 1 d keys) ≡ length keys
length_sides d [] = refl
length_sides d (key ∷ keys) = search (arith, length_sides d keys, bit_small, cases_eq, left_out)

-- a power is a product
pub powers : (m g k : ℕ) → m ≡ g + k → 2 ^ m ≡ 2 ^ g * 2 ^ k
powers m g k e = rw e (pow-add 2 g k)

-- a group after lower ones: its code comes after theirs
pub code_grows : (g n d e : ℕ) (xs ys : List (List ℕ)) → d + g ≡ e → All (λ key. number_at g d key < n) xs → All (λ key. number_at g d key ≡ n) ys → n < 2 ^ g
    → grouped_code g (xs ++ ys) d ≡ grouped_code g xs d ++ trie_code ys e
code_grows zero n d e xs ys deep lower alike small = search (arith, none_below, short_code)
code_grows (suc g) n d e xs ys deep lower alike small = elim (cases_lt n (2 ^ g)) [
  | inl low ↦
      let one = lows g d (λ m. m < n) xs (λ m h. omega arith) lower in
      let two = lows g d (λ m. m ≡ n) ys (λ m h. omega arith) alike in
      let all = low_group g d (xs ++ ys) (All-append (λ key. bit_of d key ≡ 0) xs ys one.0 two.0) in
      cc (low_group g d xs one.0, code_grows g n (d + 1) e xs ys (omega arith) one.1 two.1 low)
  | inr high ↦
      let double = pow-succ' 2 g in
      let two = highs g n d ys high alike in
      search (arith, code_grows g (n - 2 ^ g) (d + 1) e (with_bit 1 d xs) ys, highs_lower, lefts_stay, rights_grow, append_assoc)
]

-- marks of both halves
halves : (m g d start place : ℕ) (keys : List (List ℕ)) → marks_of (suc m) (suc g) keys d start place
    ≡ marks_of m g (with_bit 0 d keys) (d + 1) start place
    ++ marks_of m g (with_bit 1 d keys) (d + 1) (start + length (grouped_code g (with_bit 0 d keys) (d + 1))) (place + length (with_bit 0 d keys))
halves m g d start place keys = let less : suc g - 1 ≡ g = omega arith in let none : start + 0 ≡ start = omega arith in rw (less, none)

-- the marks in front are those of the left half
front_marks : (m g k j d start place : ℕ) (keys : List (List ℕ)) → m ≡ g + k → j ≤ 2 ^ g
    → take (j * 2 ^ k) (marks_of (suc m) (suc g) keys d start place) ≡ take (j * 2 ^ k) (marks_of m g (with_bit 0 d keys) (d + 1) start place)
front_marks m g k j d start place keys deep few =
    let lefts = marks_of m g (with_bit 0 d keys) (d + 1) start place in
    let rights = marks_of m g (with_bit 1 d keys) (d + 1) (start + length (grouped_code g (with_bit 0 d keys) (d + 1))) (place + length (with_bit 0 d keys)) in
    let size = length-marks_of m g (with_bit 0 d keys) (d + 1) start place in
    let all = powers m g k deep in
    search (arith, halves, take-append-le)

-- the marks behind the left half are those of the right one
back_marks : (m g k j d start place : ℕ) (keys : List (List ℕ)) → m ≡ g + k
    → take ((2 ^ g + j) * 2 ^ k) (marks_of (suc m) (suc g) keys d start place)
    ≡ marks_of m g (with_bit 0 d keys) (d + 1) start place
    ++ take (j * 2 ^ k) (marks_of m g (with_bit 1 d keys) (d + 1) (start + length (grouped_code g (with_bit 0 d keys) (d + 1))) (place + length (with_bit 0 d keys)))
back_marks m g k j d start place keys deep =
    let lefts = marks_of m g (with_bit 0 d keys) (d + 1) start place in
    let rights = marks_of m g (with_bit 1 d keys) (d + 1) (start + length (grouped_code g (with_bit 0 d keys) (d + 1))) (place + length (with_bit 0 d keys)) in
    let size = length-marks_of m g (with_bit 0 d keys) (d + 1) start place in
    let all = powers m g k deep in
    let apart : (2 ^ g + j) * 2 ^ k ≡ 2 ^ g * 2 ^ k + j * 2 ^ k = grind arith in
    let count : (2 ^ g + j) * 2 ^ k ≡ length lefts + j * 2 ^ k = omega arith in
    rw (halves, count) (take-append-add lefts rights (j * 2 ^ k))

-- and its marks come after theirs
pub marks_grow : (g n m k d e start place : ℕ) (xs ys : List (List ℕ)) → d + g ≡ e → m ≡ g + k → All (λ key. number_at g d key < n) xs → All (λ key. number_at g d key ≡ n) ys → n < 2 ^ g
    → take ((n + 1) * 2 ^ k) (marks_of m g (xs ++ ys) d start place) ≡ take (n * 2 ^ k) (marks_of m g xs d start place) ++ marks_of k 0 ys e (start + length (grouped_code g xs d)) (place + length xs)
marks_grow zero n m k d e start place xs ys deep more lower alike small = search (arith, none_below, short_code, length-marks_of, take_all)
marks_grow (suc g) n zero k d e start place xs ys deep more lower alike small = absurd (omega arith)
marks_grow (suc g) n (suc m) k d e start place xs ys deep more lower alike small = elim (cases_lt n (2 ^ g)) [
  | inl low ↦
      let one = lows g d (λ m. m < n) xs (λ m h. omega arith) lower in
      let two = lows g d (λ m. m ≡ n) ys (λ m h. omega arith) alike in
      let both = all_kept 0 d (xs ++ ys) (All-append (λ key. bit_of d key ≡ 0) xs ys one.0 two.0) in
      search (arith, marks_grow g n m k (d + 1) e start place xs ys, front_marks, all_kept, low_group)
  | inr high ↦
      let double = pow-succ' 2 g in
      let j = n - 2 ^ g in
      let two = highs g n d ys high alike in
      let lefts = with_bit 0 d xs in
      let rights = with_bit 1 d xs in
      let behind = start + length (grouped_code g lefts (d + 1)) in
      let past = place + length lefts in
      let start_is : behind + length (grouped_code g rights (d + 1)) ≡ start + length (grouped_code (suc g) xs d) = simp length-append (omega arith) in
      let place_is : past + length rights ≡ place + length xs = omega (arith, length_sides d xs) in
      let next : n + 1 ≡ 2 ^ g + (j + 1) = omega arith in
      let here : n ≡ 2 ^ g + j = omega arith in
      search (arith, marks_grow g j m k (d + 1) e behind past rights ys, highs_lower, back_marks, lefts_stay, rights_grow, append_assoc)
]
