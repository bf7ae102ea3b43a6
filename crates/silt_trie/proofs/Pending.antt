-- Lemmas on codes that are still to be skipped.
use Rattle.silt_trie.proofs.Common.{◌≡◌, ℕ, zero, suc, ◌+◌, ◌-◌, ◌<◌, ◌≤◌, min, List, ◌++◌, length, get_or, ap, ◌∙◌, inl, inr, arith, length-set, set, cases_lt, le-leb, lt-leb, BeginsWithCode}
use Rattle.silt_trie.proofs.Common.{trie_code, with_bit, IsCodable, leb, get_or-set_other, get_or-set_same}
use Rattle.std.specs.Int.{from_bool}
use Rattle.silt_trie.proofs.Codes.{short_code, deep_few, node, left_within, length_rights}
use Rattle.silt_trie.proofs.Sides.{lefts_codable, rights_codable}

-- keys whose number is at place t, with codes to come below depth d + t
pub record Waits (d t : ℕ) (counts : List ℕ) (keys : List (List ℕ)) (e : ℕ) : Type 0 where
  pub codable : IsCodable keys e
  pub many : 2 ≤ length keys
  pub count : length keys ≡ get_or counts t 0
  pub deep : d + t ≤ e

-- bits are the codes of keys whose numbers are the first t, the last of them first, and then the rest
abbrev pub Pending : ℕ → List ℕ → ℕ → List ℕ → List ℕ → Type 0
Pending d counts zero bits rest = bits ≡ rest
Pending d counts (suc t) bits rest =
    (keys : List (List ℕ)) × (e : ℕ) × (more : List ℕ) × Waits d t counts keys e × (bits ≡ trie_code keys e ++ more) × Pending d counts t more rest

-- only the first t numbers matter
same_below : (d t : ℕ) (counts others bits rest : List ℕ) → ((j : ℕ) → j < t → get_or counts j 0 ≡ get_or others j 0) → Pending d counts t bits rest → Pending d others t bits rest
same_below d zero counts others bits rest same pending = pending
same_below d (suc t) counts others bits rest same pending =
    let waits = pending.3 in (
      pending.0,
      pending.1,
      pending.2,
      record { codable = waits.codable; many = waits.many; count = waits.count ∙ same t (omega arith); deep = waits.deep },
      pending.4,
      same_below d t counts others pending.2 rest (λ j h. same j (omega arith)) pending.5,
    )

-- one more number, if its keys have a code
pub push_one : (d t e n top : ℕ) (counts bits more rest : List ℕ) (keys : List (List ℕ)) → IsCodable keys e → n ≡ length keys → d + t ≤ e → t < length counts → bits ≡ trie_code keys e ++ more
    → (2 ≤ n → top ≡ suc t) → (n < 2 → top ≡ t) → Pending d counts t more rest → Pending d (set counts t n) top bits rest
push_one d t e n top counts bits more rest keys codable count deep within is long short pending =
    search (arith, get_or-set_other, same_below, cases_lt, short_code, get_or-set_same, deep)

-- there are no more than there are depths
pub few_pending : (d t : ℕ) (counts bits rest : List ℕ) → Pending d counts t bits rest → t ≤ 160
few_pending d zero counts bits rest pending = omega arith
few_pending d (suc t) counts bits rest pending =
    elim (cases_lt pending.1 160) [ inl within ↦ omega arith | inr past ↦ let few = deep_few pending.1 pending.0 pending.3.codable past in absurd (omega arith) ]

-- the number that a test counts
pub counted : (n r : ℕ) → r ≡ from_bool (leb 2 n) → (2 ≤ n → r ≡ 1) × (n < 2 → r ≡ 0)
counted n r is = (λ many. is ∙ ap from_bool (le-leb 2 n many), λ few. is ∙ ap from_bool (lt-leb 2 n few))

-- if there are two keys, they have bits left
inside : (keys : List (List ℕ)) (e : ℕ) → IsCodable keys e → 2 ≤ length keys → e < 160
inside keys e codable many = elim (cases_lt e 160) [ inl within ↦ within | inr past ↦ let few = deep_few e keys codable past in absurd (omega arith) ]

-- the next number in the bits is that of the keys on the left of those that are pending last
pub next_begins : (d t : ℕ) (counts bits rest : List ℕ) → Pending d counts (suc t) bits rest → (left : ℕ) × (tail : List ℕ) × BeginsWithCode bits (left + 1) tail
next_begins d t counts bits rest pending =
    let waits = pending.3 in
    (length (with_bit 0 pending.1 pending.0), _, node pending.0 pending.1 bits pending.2 waits.codable waits.many (inside pending.0 pending.1 waits.codable waits.many) pending.4)

-- one code taken off the front: both sides of its keys are pending in their place
pub turn : (d t next left right r s : ℕ) (counts bits after rest : List ℕ) → Pending d counts (suc t) bits rest → length counts ≡ 161
    → t < 160 → ((m : ℕ) (tail : List ℕ) → BeginsWithCode bits m tail → (next ≡ m) × (after ≡ tail))
    → left ≡ min (next - 1) (get_or counts t 0) → right ≡ get_or counts t 0 - left → r ≡ from_bool (leb 2 right) → s ≡ from_bool (leb 2 left)
    → Pending d (set (set counts t right) (t + r) left) (t + r + s) after rest
turn d t next left right r s counts bits after rest pending size within reads left_is right_is r_is s_is =
    let keys = pending.0 in
    let e = pending.1 in
    let more = pending.2 in
    let waits = pending.3 in
    let codable = waits.codable in
    let read = reads (length (with_bit 0 e keys) + 1) _ (node keys e bits more codable waits.many (inside keys e codable waits.many) pending.4) in
    search (arith, left_within, length_rights, cases_lt, push_one, rights_codable, length-set, lefts_codable)
