-- The order of keys.
use Rattle.silt_dump.proofs.Common.{◌≡◌, ◌⊎◌, ℕ, List, true, Option, Some, None, inl, inr, refl, sym, subst, ap, ◌∙◌, is_eq, nat_cmp, ordering_reverse, slice_cmp, Ordering, Less, Equal, Greater}
use Rattle.silt_dump.proofs.Common.{is_eq-slice_cmp, key_cmp, Key, not_below_itself, IsAbove, IsBelow}
use Rattle.std.proofs.lemmas.Cmp.{nat_list_cmp_total}
use Rattle.std.proofs.lemmas.Slice.Eq.{bytes_eq-Decides}

-- no key is below itself
pub not_itself : (a : Key) → IsBelow a a → ⊥
not_itself a below = not_below_itself a.0 a.0 refl below

pub below_trans : (a b c : Key) → IsBelow a b → IsBelow b c → IsBelow a c
below_trans a b c = nat_list_cmp_total.trans a.0 b.0 c.0

-- of two keys not both are below the other
pub not_both : (a b : Key) → IsBelow a b → IsBelow b a → ⊥
not_both a b first second = not_itself a (below_trans a b a first second)

-- keys that compare as equal have the same bytes
pub equal_bytes : (a b : Key) → key_cmp a b ≡ Equal → a.0 ≡ b.0
equal_bytes a b equal = (bytes_eq-Decides a.0 b.0).0 (sym (is_eq-slice_cmp a.0 b.0) ∙ ap is_eq equal)

-- and keys with the same bytes compare as equal
pub bytes_equal : (a b : Key) → a.0 ≡ b.0 → is_eq (key_cmp a b) ≡ true
bytes_equal a b same = is_eq-slice_cmp a.0 b.0 ∙ (bytes_eq-Decides a.0 b.0).1 same

-- a key that compares as greater is above
pub greater_above : (a b : Key) → key_cmp a b ≡ Greater → IsBelow b a
greater_above a b greater = nat_list_cmp_total.antisymm b.0 a.0 ∙ ap ordering_reverse greater

-- and the other way
pub below_greater : (a b : Key) → IsBelow b a → key_cmp a b ≡ Greater
below_greater a b below = nat_list_cmp_total.antisymm a.0 b.0 ∙ ap ordering_reverse below

-- a key is below another, the same, or above it
pub compared : (a b : Key) → IsBelow a b ⊎ ((a.0 ≡ b.0) ⊎ IsBelow b a)
compared a b = go (key_cmp a b) refl
  where
    go : (o : Ordering) → key_cmp a b ≡ o → IsBelow a b ⊎ ((a.0 ≡ b.0) ⊎ IsBelow b a)
    go Less is = inl is
    go Equal is = inr (inl (equal_bytes a b is))
    go Greater is = inr (inr (greater_above a b is))

-- what is above a key that is above the last one, is above the last one
pub above_trans : (last : Option Key) (a b : Key) → IsAbove last a → IsBelow a b → IsAbove last b
above_trans None a b above below = tt
above_trans (Some last) a b above below = below_trans last a b above below

-- a key is above the last one, or it is not
pub above_or : (last : Option Key) (key : Key) → IsAbove last key ⊎ (IsAbove last key → ⊥)
above_or None key = inl tt
above_or (Some last) key = go (key_cmp last key) refl
  where
    go : (o : Ordering) → key_cmp last key ≡ o → IsAbove (Some last) key ⊎ (IsAbove (Some last) key → ⊥)
    go Less is = inl is
    go Equal is = inr (λ below. let same : Equal ≡ Less = sym is ∙ below in cc)
    go Greater is = inr (λ below. let same : Greater ≡ Less = sym is ∙ below in cc)

-- two keys of the same bytes are both above the last one
pub above_same : (last : Option Key) (a b : Key) → a.0 ≡ b.0 → IsAbove last a → IsAbove last b
above_same None a b same above = tt
above_same (Some last) a b same above = subst (λ (bytes : List ℕ). slice_cmp nat_cmp last.0 bytes ≡ Less) same above
