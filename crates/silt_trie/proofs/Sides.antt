-- Lemmas on the two sides of keys at a bit.
use Rattle.silt_trie.proofs.Common.{◌≡◌, ℕ, zero, suc, ◌+◌, ◌<◌, ◌≤◌, List, [], ◌∷◌, length, take, drop, get_or, refl, sym, ap, ◌∙◌, inl, inr, arith, length-drop, cases_eq, cases_lt, cases_order}
use Rattle.silt_trie.proofs.Common.{ne_eqb, bit_of, with_bit, AgreeIn, Follows, IsCodable, Bool, cond, add-one, get_or-take, get_or-drop, length-take-le, eq-eqb}
use Rattle.silt_trie.proofs.KeyBits.{bit_small}
use Rattle.silt_trie.proofs.Order.{below_at}

-- keys whose bits at d do not fall
abbrev Mounting : ℕ → List (List ℕ) → Type 0
Mounting d keys = (i : ℕ) → i + 1 < length keys → bit_of d (get_or keys i []) ≤ bit_of d (get_or keys (i + 1) [])

-- the first m keys have bit 0 at d, and the others bit 1
pub record Divides (d : ℕ) (keys : List (List ℕ)) (m : ℕ) : Type 0 where
  pub within : m ≤ length keys
  pub zeros : (i : ℕ) → i < m → bit_of d (get_or keys i []) ≡ 0
  pub ones : (i : ℕ) → m ≤ i → i < length keys → bit_of d (get_or keys i []) ≡ 1
  pub lefts : with_bit 0 d keys ≡ take m keys
  pub rights : with_bit 1 d keys ≡ drop m keys

-- the bits at d of keys that can be coded do not fall
mounting : (d : ℕ) (keys : List (List ℕ)) → IsCodable keys d → Mounting d keys
mounting d keys codable i h = let next = codable.rising i h in below_at d _ _ next.below next.alike

-- a key with this bit stays
pub kept : (bit d : ℕ) (key : List ℕ) (keys : List (List ℕ)) → bit_of d key ≡ bit → with_bit bit d (key ∷ keys) ≡ key ∷ with_bit bit d keys
kept bit d key keys e = ap (λ (b : Bool). cond b (key ∷ with_bit bit d keys) (with_bit bit d keys)) (eq-eqb (bit_of d key) bit e)

-- a key with another bit does not
pub left_out : (bit d : ℕ) (key : List ℕ) (keys : List (List ℕ)) → (bit_of d key ≡ bit → ⊥) → with_bit bit d (key ∷ keys) ≡ with_bit bit d keys
left_out bit d key keys e = ap (λ (b : Bool). cond b (key ∷ with_bit bit d keys) (with_bit bit d keys)) (ne_eqb (bit_of d key) bit e)

-- one more key in front, with bit 0
one_left : (d : ℕ) (key : List ℕ) (keys : List (List ℕ)) (m : ℕ) → bit_of d key ≡ 0 → Divides d keys m → Divides d (key ∷ keys) (suc m)
one_left d key keys m here rest =
    record {
      within = omega arith;
      zeros = zeros;
      ones = ones;
      lefts = kept 0 d key keys here ∙ ap (λ (ks : List (List ℕ)). key ∷ ks) rest.lefts;
      rights = left_out 1 d key keys (λ e. absurd (omega arith)) ∙ rest.rights;
    }
  where
    zeros : (i : ℕ) → i < suc m → bit_of d (get_or (key ∷ keys) i []) ≡ 0
    zeros zero h = here
    zeros (suc i) h = rest.zeros i (omega arith)

    ones : (i : ℕ) → suc m ≤ i → i < suc (length keys) → bit_of d (get_or (key ∷ keys) i []) ≡ 1
    ones zero h l = absurd (omega arith)
    ones (suc i) h l = rest.ones i (omega arith) (omega arith)

-- one more key in front of keys with bit 1, with bit 1 too
one_right : (d : ℕ) (key : List ℕ) (keys : List (List ℕ)) → bit_of d key ≡ 1 → Divides d keys 0 → Divides d (key ∷ keys) 0
one_right d key keys here rest =
    record {
      within = omega arith;
      zeros = λ i h. absurd (omega arith);
      ones = ones;
      lefts = left_out 0 d key keys (λ e. absurd (omega arith)) ∙ rest.lefts;
      rights = kept 1 d key keys here ∙ ap (λ (ks : List (List ℕ)). key ∷ ks) rest.rights;
    }
  where
    ones : (i : ℕ) → 0 ≤ i → i < suc (length keys) → bit_of d (get_or (key ∷ keys) i []) ≡ 1
    ones zero h l = here
    ones (suc i) h l = rest.ones i (omega arith) (omega arith)

-- one more key in front
one_more : (d : ℕ) (key : List ℕ) (keys : List (List ℕ)) → (0 < length keys → bit_of d key ≤ bit_of d (get_or keys 0 [])) → (m : ℕ) → Divides d keys m → (m' : ℕ) × Divides d (key ∷ keys) m'
one_more d key keys up m rest = elim (cases_eq (bit_of d key) 0) [
  | inl zero_bit ↦ (suc m, one_left d key keys m zero_bit rest)
  | inr other ↦
      let small = bit_small d key in
      let one_bit : bit_of d key ≡ 1 = omega arith in
      (0, one_right d key keys one_bit (none m rest one_bit))
]
  where
    none : (m : ℕ) → Divides d keys m → bit_of d key ≡ 1 → Divides d keys 0
    none zero divides e = divides
    none (suc m) divides e = let within = divides.within in let first = divides.zeros 0 (omega arith) in let rises = up (omega arith) in absurd (omega arith)

-- keys whose bits do not fall divide at one place
divides_by : (d : ℕ) (keys : List (List ℕ)) → Mounting d keys → (m : ℕ) × Divides d keys m
divides_by d [] up = (0, record { within = omega arith; zeros = λ i h. absurd (omega arith); ones = λ i h l. absurd (omega arith); lefts = refl; rights = refl })
divides_by d (key ∷ keys) up =
    let after : (i : ℕ) → get_or (key ∷ keys) (i + 1) [] ≡ get_or keys i [] = λ i. ap (λ (j : ℕ). get_or (key ∷ keys) j []) (add-one i) in
    let rest = divides_by d keys (λ i h. let rises = up (i + 1) (omega arith) in let here = ap (bit_of d) (after i) in let next = ap (bit_of d) (after (i + 1)) in omega arith) in
    one_more d key keys (λ some. let rises = up 0 (omega arith) in rises) rest.0 rest.1

-- keys that can be coded are in two parts, by their bit at d
pub divides : (d : ℕ) (keys : List (List ℕ)) → IsCodable keys d → Divides d keys (length (with_bit 0 d keys))
divides d keys codable =
    let found = divides_by d keys (mounting d keys codable) in
    let split = found.1 in
    let count : length (with_bit 0 d keys) ≡ found.0 = ap length split.lefts ∙ length-take-le found.0 keys split.within in
    rw count split

-- a number of keys by which all divide is the number of those on the left
pub count_is : (d m : ℕ) (keys : List (List ℕ)) → m ≤ length keys → ((i : ℕ) → i < m → bit_of d (get_or keys i []) ≡ 0) → ((i : ℕ) → m ≤ i → i < length keys → bit_of d (get_or keys i []) ≡ 0 → ⊥)
    → IsCodable keys d → m ≡ length (with_bit 0 d keys)
count_is d m keys within zeros ones codable = search (arith, ones, divides, cases_order)

-- bits that agree at d agree one bit further
further : (d : ℕ) (a b : List ℕ) → AgreeIn d a b → bit_of d a ≡ bit_of d b → AgreeIn (d + 1) a b
further d a b same here k h = search (arith, cases_eq)

-- a key that follows with the same bit follows one bit deeper
step : (d : ℕ) (a b : List ℕ) → Follows d a b → bit_of d a ≡ bit_of d b → Follows (d + 1) a b
step d a b next here = record { sized = next.sized; below = next.below; alike = further d a b next.alike here }

-- the keys on the left can be coded one bit deeper
pub lefts_codable : (d : ℕ) (keys : List (List ℕ)) → IsCodable keys d → IsCodable (with_bit 0 d keys) (d + 1)
lefts_codable d keys codable =
    let split = divides d keys codable in
    let m = length (with_bit 0 d keys) in
    let count = length-take-le m keys split.within in
    let key : (i : ℕ) → i < m → get_or (take m keys) i [] ≡ get_or keys i [] = λ i h. get_or-take m keys i [] h in
    let part : IsCodable (take m keys) (d + 1) = record {
      few = omega arith;
      rising = λ i h. rw (key i (omega arith), key (i + 1) (omega arith)) (step d _ _ (codable.rising i (omega arith)) (split.zeros i (omega arith) ∙ sym (split.zeros (i + 1) (omega arith))));
    } in
    rw split.lefts part

-- and so can those on the right
pub rights_codable : (d : ℕ) (keys : List (List ℕ)) → IsCodable keys d → IsCodable (with_bit 1 d keys) (d + 1)
rights_codable d keys codable =
    let split = divides d keys codable in
    let m = length (with_bit 0 d keys) in
    let count = length-drop m keys in
    let key : (i : ℕ) → get_or (drop m keys) i [] ≡ get_or keys (m + i) [] = λ i. get_or-drop m keys i [] in
    let next : (i : ℕ) → get_or (drop m keys) (i + 1) [] ≡ get_or keys (m + i + 1) [] = λ i. get_or-drop m keys (i + 1) [] ∙ ap (λ (j : ℕ). get_or keys j []) (omega arith) in
    let part : IsCodable (drop m keys) (d + 1) = record {
      few = omega arith;
      rising = λ i h. rw (key i, next i) (step d _ _ (codable.rising (m + i) (omega arith))
          (split.ones (m + i) (omega arith) (omega arith) ∙ sym (split.ones (m + i + 1) (omega arith) (omega arith))));
    } in
    rw split.rights part

-- what a search for the first key with bit 1 knows: keys before `low` have bit 0, and those from `high` on bit 1
pub record Bounds (d : ℕ) (keys : List (List ℕ)) (low high : ℕ) : Type 0 where
  pub ordered : low ≤ high
  pub within : high ≤ length keys
  pub zeros : (i : ℕ) → i < low → bit_of d (get_or keys i []) ≡ 0
  pub ones : (i : ℕ) → high ≤ i → i < length keys → bit_of d (get_or keys i []) ≡ 0 → ⊥

-- a key with bit 0 raises the lower bound
pub bounds_up : (d low high middle : ℕ) (keys : List (List ℕ)) → IsCodable keys d → Bounds d keys low high → middle < high → bit_of d (get_or keys middle []) ≡ 0 → Bounds d keys (middle + 1) high
bounds_up d low high middle keys codable bounds below low_bit =
    let split = divides d keys codable in
    let within = bounds.within in
    let m = length (with_bit 0 d keys) in
    let before : middle < m = elim (cases_lt middle m) [ inl inside ↦ inside | inr past ↦ let one_bit = split.ones middle past (omega arith) in absurd (omega arith) ] in
    record { ordered = omega arith; within = within; zeros = λ i h. split.zeros i (omega arith); ones = bounds.ones }

-- a key with bit 1 lowers the upper one
pub bounds_down : (d low high middle : ℕ) (keys : List (List ℕ)) → IsCodable keys d → Bounds d keys low high → low ≤ middle
    → middle < high → (bit_of d (get_or keys middle []) ≡ 0 → ⊥) → Bounds d keys low middle
bounds_down d low high middle keys codable bounds from below high_bit =
    let split = divides d keys codable in
    let m = length (with_bit 0 d keys) in
    let past : m ≤ middle = elim (cases_lt middle m) [ inl inside ↦ absurd (high_bit (split.zeros middle inside)) | inr past ↦ past ] in
    record { ordered = from; within = omega arith; zeros = bounds.zeros; ones = λ i h l z. let one_bit = split.ones i (omega arith) l in absurd (omega arith) }

-- once the bounds meet, that many keys are on the left
pub bounds_end : (d low high : ℕ) (keys : List (List ℕ)) → IsCodable keys d → Bounds d keys low high → high ≤ low → low ≡ length (with_bit 0 d keys)
bounds_end d low high keys codable bounds done = count_is d low keys (omega arith) bounds.zeros (λ i h l. bounds.ones i (omega arith) l) codable
