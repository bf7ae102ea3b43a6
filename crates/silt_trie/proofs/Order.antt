-- Lemmas on the order of keys, by bytes and by bits.
use Rattle.silt_trie.proofs.Common.{◌≡◌, ℕ, zero, suc, ◌*◌, ◌/◌, ◌%◌, ◌^◌, ◌<◌, ◌≤◌, true, List, [], ◌∷◌, ◌++◌, length, get_or, replicate, refl, sym, ap, ◌∙◌, inl, inr, arith, Ordering, Less}
use Rattle.silt_trie.proofs.Common.{get_or_append_left, cases_lt, cases_order, ne_eqb, mod_below, mul-le-mul_right, pow-succ', slice_cmp, low_bits, bits_of, bit_of, AgreeIn, Follows, ltb, Equal}
use Rattle.silt_trie.proofs.Common.{Greater, ext_get_or, lt-ltb, le-ltb, ltb-true, div_below, pow_pos, div-add-mod', mod-eq_of_lt, nat_cmp, OrderLaw, GroupLaw}
use Rattle.silt_gamma.proofs.BitLists.{length-low_bits, length-bits_of, low_bits_mod}
use Rattle.std.proofs.lemmas.Cmp.{tied_itself, nat_cmp_total, nat_list_cmp_total}
use Rattle.std.specs.Ordering.{ordering_then}
use Rattle.silt_trie.proofs.KeyBits.{bit_small}

-- what `nat_cmp` means for two numbers: the first is lower
lower : (x y : ℕ) → x < y → nat_cmp x y ≡ Less
lower x y h = cc (lt-ltb x y h)

-- the first is higher
higher : (x y : ℕ) → y < x → nat_cmp x y ≡ Greater
higher x y h = cc (le-ltb x y (omega arith), ne_eqb x y (omega arith))

-- both are equal
tied : (x y : ℕ) → x ≡ y → nat_cmp x y ≡ Equal
tied x y e = ap (λ (z : ℕ). nat_cmp x z) (sym e) ∙ tied_itself nat_cmp_total x

-- the order of two lists is that of their first numbers, if these differ
first_not_above : (x y : ℕ) (o : Ordering) → ordering_then (nat_cmp x y) o ≡ Less → x ≤ y
first_not_above x y o less = elim (cases_lt y x) [ inl above ↦ absurd (cc (higher x y above)) | inr upto ↦ upto ]

-- of two lists that agree below d, the lower has no greater number at d
pub below_at : (d : ℕ) (a b : List ℕ) → slice_cmp nat_cmp a b ≡ Less → ((k : ℕ) → k < d → get_or a k 0 ≡ get_or b k 0) → get_or a d 0 ≤ get_or b d 0
below_at d [] b less same = omega arith
below_at d (x ∷ xs) [] less same = absurd (cc)
below_at zero (x ∷ xs) (y ∷ ys) less same = first_not_above x y _ less
below_at (suc d) (x ∷ xs) (y ∷ ys) less same = let equals = tied x y (same 0 (omega arith)) in below_at d xs ys (cc) (λ k h. same (suc k) (omega arith))

-- numbers compare by their quotients, and then by their remainders
by_parts : (p x y : ℕ) (o : Ordering) → 0 < p → ordering_then (nat_cmp (x / p) (y / p)) (ordering_then (nat_cmp (x % p) (y % p)) o) ≡ ordering_then (nat_cmp x y) o
by_parts p x y o some = elim (cases_order (x / p) (y / p)) [
  | inl same ↦
      search (arith, div-add-mod', tied, cases_order, higher)
  | inr (inl below) ↦
      let next : suc (x / p) * p ≤ y / p * p = mul-le-mul_right p (omega arith) in
      search arith
  | inr (inr above) ↦
      let next : suc (y / p) * p ≤ x / p * p = mul-le-mul_right p (omega arith) in
      search (arith, higher)
]

-- the same of the bits of two numbers, whatever follows
word_order : (w x y : ℕ) (xs ys : List ℕ) → x < 2 ^ w → y < 2 ^ w → slice_cmp nat_cmp (low_bits w x ++ xs) (low_bits w y ++ ys) ≡ ordering_then (nat_cmp x y) (slice_cmp nat_cmp xs ys)
word_order zero x y xs ys p q = cc (tied x y (omega arith))
word_order (suc w) x y xs ys p q =
    let double : 2 ^ suc w ≡ 2 * 2 ^ w = pow-succ' 2 w in
    let some : 0 < 2 ^ w = pow_pos w in
    let hx : x / 2 ^ w % 2 ≡ x / 2 ^ w = mod-eq_of_lt (div_below x (2 ^ w) 2 some (omega arith)) in
    let hy : y / 2 ^ w % 2 ≡ y / 2 ^ w = mod-eq_of_lt (div_below y (2 ^ w) 2 some (omega arith)) in
    search (arith, word_order w (x % 2 ^ w) (y % 2 ^ w) xs ys (mod_below x (2 ^ w) some) (mod_below y (2 ^ w) some), mod_below, low_bits_mod, by_parts)

-- keys compare by their bits as by their bytes
pub order_law : OrderLaw
order_law [] [] small_a small_b = refl
order_law [] (y ∷ b) small_a small_b = refl
order_law (x ∷ a) [] small_a small_b = refl
order_law (x ∷ a) (y ∷ b) small_a small_b =
    word_order 8 x y (bits_of a) (bits_of b) (small_a 0) (small_b 0)
    ∙ ap (ordering_then (nat_cmp x y)) (order_law a b (λ i. small_a (suc i)) (λ i. small_b (suc i)))

-- a list of zeros has 0 at each place
get_or-replicate_any : (n k : ℕ) → get_or (replicate {A = ℕ} n 0) k 0 ≡ 0
get_or-replicate_any zero k = refl
get_or-replicate_any (suc n) zero = refl
get_or-replicate_any (suc n) (suc k) = get_or-replicate_any n k

-- one of the first 8 bits, by the first byte
first_bits : (k : ℕ) (a : List ℕ) → k < 8 → bit_of k a ≡ get_or (low_bits 8 (get_or a 0 0)) k 0
first_bits k [] h = sym (get_or-replicate_any 8 k)
first_bits k (x ∷ a) h = search (arith, length-low_bits, get_or_append_left)

-- the first byte decides the first 8 bits
pub group_law : GroupLaw
group_law a b same k h = first_bits k a h ∙ ap (λ (x : ℕ). get_or (low_bits 8 x) k 0) same ∙ sym (first_bits k b h)

-- of two lists that agree below d, the one with the smaller number at d is the lower
below_from : (d : ℕ) (a b : List ℕ) → ((k : ℕ) → k < d → get_or a k 0 ≡ get_or b k 0) → d < length a → d < length b → get_or a d 0 < get_or b d 0 → slice_cmp nat_cmp a b ≡ Less
below_from d [] b same in_a in_b less = absurd (omega arith)
below_from d (x ∷ xs) [] same in_a in_b less = absurd (omega arith)
below_from zero (x ∷ xs) (y ∷ ys) same in_a in_b less = search arith
below_from (suc d) (x ∷ xs) (y ∷ ys) same in_a in_b less =
    ap (λ (c : Ordering). ordering_then c (slice_cmp nat_cmp xs ys)) (tied x y (same 0 (omega arith))) ∙ below_from d xs ys (λ k h. same (suc k) (omega arith)) (omega arith) (omega arith) less

-- keys that agree before a bit that differs follow by that bit
pub follows_from : (d at : ℕ) (a b : List ℕ) → length a ≡ 20 → length b ≡ 20 → at < 160 → d ≤ at → AgreeIn at a b → (bit_of at a ≡ bit_of at b → ⊥) → bit_of at a ≡ 0 → Follows d a b
follows_from d at a b size_a size_b within upto same differ low = search (arith, length-bits_of, below_from)

-- keys that agree in all bits do not follow one another
pub not_tied : (d : ℕ) (a b : List ℕ) → AgreeIn 160 a b → Follows d a b → ⊥
not_tied d a b alike next =
    let same : bits_of a ≡ bits_of b = ext_get_or 0 (bits_of a) (bits_of b) (omega (arith, length-bits_of a, length-bits_of b)) (λ k h. alike k (omega (arith, length-bits_of a))) in
    let below : slice_cmp nat_cmp (bits_of a) (bits_of b) ≡ Less = next.below in
    absurd (cc (tied_itself nat_list_cmp_total (bits_of a)))

-- keys that agree in fewer than d bits do not follow one another
pub not_alike : (d at : ℕ) (a b : List ℕ) → at < d → (bit_of at a ≡ bit_of at b → ⊥) → Follows d a b → ⊥
not_alike d at a b below differ next = differ (next.alike at below)

-- the test that decides: which of the two has bit 0 there
pub follows_test : (d at bit other : ℕ) (a b : List ℕ) → length a ≡ 20 → length b ≡ 20 → at < 160 → d ≤ at → AgreeIn at a b → (bit_of at a ≡ bit_of at b → ⊥) → bit ≡ bit_of at a → other ≡ bit_of at b
    → (ltb bit other ≡ true → Follows d a b) × (Follows d a b → ltb bit other ≡ true)
follows_test d at bit other a b size_a size_b within upto same differ is are = search (arith, ltb-true, bit_small, follows_from, below_at, lt-ltb)
