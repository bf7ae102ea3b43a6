-- The replies of shards to a flush, joined one after the other.
use Rattle.silt_shards.proofs.Common.{◌≡◌, ℕ, ◌+◌, ◌-◌, ◌^◌, true, false, not, Option, Some, None, List, [], ◌∷◌, ◌++◌, min, refl, ap, arith, All, sum_by, unwrap_or, option_or, All-cons, All-nil}
use Rattle.silt_shards.proofs.Common.{PlainReply, acknowledged_by, Accepted, Acknowledged, acknowledges, as_count, joined}
use Rattle.std.specs.Prelude.{find}
use Rattle.std.proofs.lemmas.List.Folds.{find-append}
use Rattle.std.proofs.lemmas.List.Sums.{sum_by-append}

-- the sum of what replies acknowledge
abbrev pub sum_of : List PlainReply → ℕ
sum_of parts = sum_by (acknowledged_by 0) parts

-- the first reply that acknowledges nothing
abbrev pub first_refusal : List PlainReply → Option PlainReply
first_refusal parts = find (λ part. not (acknowledges part)) parts

-- the joined reply, by cases: all replies acknowledge, or one is the first that does not
pub data Joins (parts : List PlainReply) : Type 0 where
  joins_all : first_refusal parts ≡ None → All (λ part. acknowledges part ≡ true) parts → joined parts ≡ Acknowledged (as_count (sum_of parts)) → Joins parts
  joins_one : (refusal : PlainReply) → first_refusal parts ≡ Some refusal → acknowledges refusal ≡ false → joined parts ≡ refusal → Joins parts

-- the joined reply if no reply is a refusal, and if one is
joined_none : (parts : List PlainReply) → first_refusal parts ≡ None → joined parts ≡ Acknowledged (as_count (sum_of parts))
joined_none parts none = ap (λ o. unwrap_or o (Acknowledged (as_count (sum_of parts)))) none

joined_some : (parts : List PlainReply) (refusal : PlainReply) → first_refusal parts ≡ Some refusal → joined parts ≡ refusal
joined_some parts refusal some = ap (λ o. unwrap_or o (Acknowledged (as_count (sum_of parts)))) some

-- what comes before the first refusal acknowledges
data Firsts (parts : List PlainReply) : Type 0 where
  no_refusal : first_refusal parts ≡ None → All (λ part. acknowledges part ≡ true) parts → Firsts parts
  has_refusal : (refusal : PlainReply) → first_refusal parts ≡ Some refusal → acknowledges refusal ≡ false → Firsts parts

firsts : (parts : List PlainReply) → Firsts parts
firsts [] = no_refusal refl (All-nil (λ part. acknowledges part ≡ true))
firsts (Acknowledged n ∷ parts) = elim (firsts parts) [
  | no_refusal is every ↦ no_refusal is (All-cons (λ part. acknowledges part ≡ true) (Acknowledged n) parts refl every)
  | has_refusal refusal is not_it ↦ has_refusal refusal is not_it
]
firsts (part ∷ parts) = has_refusal part refl refl

pub joins : (parts : List PlainReply) → Joins parts
joins parts = elim (firsts parts) [
  | no_refusal is every ↦ joins_all is every (joined_none parts is)
  | has_refusal refusal is not_it ↦ joins_one refusal is not_it (joined_some parts refusal is)
]

-- one more reply
refusal_append : (parts : List PlainReply) (part : PlainReply) → first_refusal (parts ++ part ∷ []) ≡ option_or (first_refusal parts) (first_refusal (part ∷ []))
refusal_append parts part = find-append (λ p. not (acknowledges p)) parts (part ∷ [])

-- a refusal stays
pub joined_stays : (parts : List PlainReply) (so_far part : PlainReply) → acknowledges so_far ≡ false → so_far ≡ joined parts → so_far ≡ joined (parts ++ part ∷ [])
joined_stays parts so_far part not_it is = search (arith, joins, joined_some, refusal_append)

-- a sum that is cut off twice
cut_twice : (sum n : ℕ) → min (min sum (2 ^ 64 - 1) + n) (2 ^ 64 - 1) ≡ min (sum + (0 + n)) (2 ^ 64 - 1)
cut_twice sum n = omega arith

-- one more count is added
pub joined_adds : (parts : List PlainReply) (sum n : ℕ) → Acknowledged sum ≡ joined parts → Acknowledged (min (sum + n) (2 ^ 64 - 1)) ≡ joined (parts ++ Acknowledged n ∷ [])
joined_adds parts sum n is = search (arith, joins, sum_by-append, refusal_append, cut_twice, joined_none)

-- the first refusal comes
pub joined_refuses : (parts : List PlainReply) (sum : ℕ) (part : PlainReply) → acknowledges part ≡ false → Acknowledged sum ≡ joined parts → part ≡ joined (parts ++ part ∷ [])
joined_refuses parts sum part not_it is = search (arith, joins, joined_some, refusal_append)

-- a joined reply that acknowledges is the sum of replies that all acknowledge
pub joined_all : (parts : List PlainReply) (n : ℕ) → joined parts ≡ Acknowledged n
    → All (λ part. acknowledges part ≡ true) parts × (n ≡ as_count (sum_of parts))
joined_all parts n is = search (arith, joins)

-- a reply that is no acknowledgement
pub acknowledges_not : (reply : PlainReply) → ((n : ℕ) → reply ≡ Acknowledged n → ⊥) → acknowledges reply ≡ false
acknowledges_not (Acknowledged n) other = absurd (other n refl)
acknowledges_not (Accepted n) other = refl
acknowledges_not reply other = refl
