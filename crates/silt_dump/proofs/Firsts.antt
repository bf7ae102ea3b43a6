-- The first entries of a map, one more after the other.
use Rattle.silt_dump.proofs.Common.{◌≡◌, ◌⊎◌, ℕ, Bool, true, false, cond, List, [], ◌∷◌, ◌++◌, Option, Some, None, inl, inr, refl, ap, sym, ◌∙◌, subst, arith, get, keys_of, lookup, is_eq, nat_cmp}
use Rattle.silt_dump.proofs.Common.{slice_cmp, Ordering, Less, Equal, Greater, Map, key_cmp, Key, AreFirstEntries, AreOfMap, AreOrderedTo, IsAbove, IsBelow, IsNextEntry, NoneAbove, value_at}
use Rattle.std.specs.List.{AllByRecursion}
use Rattle.std.specs.List.Sorted.{IsStrictlySortedBy}
use Rattle.std.proofs.lemmas.List.Elements.{All-from_recursion, recursion_from_All}
use Rattle.silt_dump.proofs.Keys.{above_or, above_same, above_trans, below_trans, compared, equal_bytes, greater_above, not_itself}
use Rattle.std.specs.BTreeMap as tree

-- the entries with one more behind them
abbrev pub with_entry : List (Key × List ℕ) → Key → List ℕ → List (Key × List ℕ)
with_entry entries key value = entries ++ (key, value) ∷ []

-- a key above the last one is not among them
none_found : (last : Option Key) (entries : List (Key × List ℕ)) → AllByRecursion (λ (key : Key). IsAbove last key → ⊥) (keys_of entries)
    → (q : Key) → IsAbove last q → lookup (tree.is_at (key_cmp q)) entries ≡ None
none_found last [] all q above = refl
none_found last (e ∷ es) all q above = go (key_cmp q e.0) refl (none_found last es all.1 q above)
  where
    rest : is_eq (key_cmp q e.0) ≡ false → lookup (tree.is_at (key_cmp q)) es ≡ None → lookup (tree.is_at (key_cmp q)) (e ∷ es) ≡ None
    rest other behind = ap (λ (b : Bool). cond b (Some e.1) (lookup (tree.is_at (key_cmp q)) es)) other ∙ behind

    go : (o : Ordering) → key_cmp q e.0 ≡ o → lookup (tree.is_at (key_cmp q)) es ≡ None → lookup (tree.is_at (key_cmp q)) (e ∷ es) ≡ None
    go Less is behind = rest (ap is_eq is) behind
    go Equal is behind = absurd (all.0 (above_same last q e.0 (equal_bytes q e.0 is) above))
    go Greater is behind = rest (ap is_eq is) behind

-- what a list with one more entry has
found_more : (entries : List (Key × List ℕ)) (key : Key) (value : List ℕ) (q : Key) → is_eq (key_cmp q key) ≡ false
    → lookup (tree.is_at (key_cmp q)) (entries ++ (key, value) ∷ []) ≡ lookup (tree.is_at (key_cmp q)) entries
found_more [] key value q other = ap (λ (b : Bool). cond b (Some value) None) other
found_more (e ∷ es) key value q other = ap (λ (found : Option (List ℕ)). cond (is_eq (key_cmp q e.0)) (Some e.1) found) (found_more es key value q other)

found_last : (last : Option Key) (entries : List (Key × List ℕ)) (key : Key) (value : List ℕ) (q : Key)
    → AllByRecursion (λ (k : Key). IsAbove last k → ⊥) (keys_of entries) → IsAbove last q → is_eq (key_cmp q key) ≡ true
    → lookup (tree.is_at (key_cmp q)) (entries ++ (key, value) ∷ []) ≡ Some value
found_last last [] key value q all above same = ap (λ (b : Bool). cond b (Some value) None) same
found_last last (e ∷ es) key value q all above same = go (key_cmp q e.0) refl (found_last last es key value q all.1 above same)
  where
    rest : is_eq (key_cmp q e.0) ≡ false → lookup (tree.is_at (key_cmp q)) (es ++ (key, value) ∷ []) ≡ Some value → lookup (tree.is_at (key_cmp q)) (e ∷ es ++ (key, value) ∷ []) ≡ Some value
    rest other behind = ap (λ (b : Bool). cond b (Some e.1) (lookup (tree.is_at (key_cmp q)) (es ++ (key, value) ∷ []))) other ∙ behind

    go : (o : Ordering) → key_cmp q e.0 ≡ o → lookup (tree.is_at (key_cmp q)) (es ++ (key, value) ∷ []) ≡ Some value → lookup (tree.is_at (key_cmp q)) (e ∷ es ++ (key, value) ∷ []) ≡ Some value
    go Less is behind = rest (ap is_eq is) behind
    go Equal is behind = absurd (all.0 (above_same last q e.0 (equal_bytes q e.0 is) above))
    go Greater is behind = rest (ap is_eq is) behind

-- a key that is not above the last one is below one that is
below_next : (last : Option Key) (key next : Key) → (IsAbove last key → ⊥) → IsAbove last next → IsBelow key next
below_next None key next not above = absurd (not tt)
below_next (Some last) key next not above = go (compared last key)
  where
    go : IsBelow last key ⊎ ((last.0 ≡ key.0) ⊎ IsBelow key last) → IsBelow key next
    go (inl below) = absurd (not below)
    go (inr (inl same)) = subst (λ (bytes : List ℕ). slice_cmp nat_cmp bytes next.0 ≡ Less) same above
    go (inr (inr lower)) = below_trans key last next lower above

-- the keys are still in order
all_more : (P : Key → Type 0) (entries : List (Key × List ℕ)) (key : Key) (value : List ℕ) → AllByRecursion P (keys_of entries) → P key → AllByRecursion P (keys_of (entries ++ (key, value) ∷ []))
all_more P [] key value all holds = (holds, tt)
all_more P (e ∷ es) key value all holds = (all.0, all_more P es key value all.1 holds)

sorted_more : (last : Option Key) (entries : List (Key × List ℕ)) (key : Key) (value : List ℕ) → IsStrictlySortedBy key_cmp (keys_of entries)
    → AllByRecursion (λ (k : Key). IsAbove last k → ⊥) (keys_of entries) → IsAbove last key
    → IsStrictlySortedBy key_cmp (keys_of (entries ++ (key, value) ∷ []))
unfolding IsStrictlySortedBy
sorted_more last [] key value sorted all above = (tt, tt)
sorted_more last (e ∷ es) key value sorted all above =
    (all_more (λ (k : Key). key_cmp e.0 k ≡ Less) es key value sorted.0 (below_next last e.0 key all.0 above), sorted_more last es key value sorted.1 all.1 above)

-- a key that is above a new last one was above the old one, so none that was not is
all_weaker : (last : Option Key) (key : Key) (entries : List (Key × List ℕ)) → IsAbove last key
    → AllByRecursion (λ (k : Key). IsAbove last k → ⊥) (keys_of entries) → AllByRecursion (λ (k : Key). IsBelow key k → ⊥) (keys_of entries)
all_weaker last key [] above all = tt
all_weaker last key (e ∷ es) above all = ((λ below. all.0 (above_trans last key e.0 above below)), all_weaker last key es above all.1)

-- ---- the entries that were given

module _ (last : Option Key) (entries : List (Key × List ℕ)) (ordered : AreOrderedTo last entries) where
  all : AllByRecursion (λ (k : Key). IsAbove last k → ⊥) (keys_of entries)
  all = recursion_from_All (λ (k : Key). IsAbove last k → ⊥) (keys_of entries) ordered.upto

  -- with one more whose key is above the last one
  pub ordered_more : (key : Key) (value : List ℕ) → IsAbove last key → AreOrderedTo (Some key) (with_entry entries key value)
  ordered_more key value above = record {
    ordered = sorted_more last entries key value ordered.ordered all above;
    upto = All-from_recursion (λ (k : Key). IsBelow key k → ⊥) (keys_of (entries ++ (key, value) ∷ []))
        (all_more (λ (k : Key). IsBelow key k → ⊥) entries key value (all_weaker last key entries above all) (not_itself key));
  }

  -- with the next one
  pub first_more : (m : Map) (key : Key) (value : List ℕ) → IsAbove last key → AreFirstEntries m last entries → IsNextEntry m last (Some key) value
      → AreFirstEntries m (Some key) (with_entry entries key value)
  first_more m key value above first next = record { ordered = ordered_more key value above; same = same }
    where
      lower : (q : Key) → IsBelow q key → IsAbove last q ⊎ (IsAbove last q → ⊥) → lookup (tree.is_at (key_cmp q)) entries ≡ get m q.0
      lower q below (inl behind) = none_found last entries all q behind ∙ sym (next.0 q behind below)
      lower q below (inr before) = first.same q before

      same : (q : Key) → (IsBelow key q → ⊥) → value_at (with_entry entries key value) q ≡ get m q.0
      same q not_above = go (key_cmp q key) refl
        where
          go : (o : Ordering) → key_cmp q key ≡ o → value_at (with_entry entries key value) q ≡ get m q.0
          go Less is = found_more entries key value q (ap is_eq is) ∙ lower q is (above_or last q)
          go Equal is =
              found_last last entries key value q all (above_same last key q (sym (equal_bytes q key is)) above) (ap is_eq is)
              ∙ sym (ap (get m) (equal_bytes q key is) ∙ next.1)
          go Greater is = absurd (not_above (greater_above q key is))

  -- they are all, if none is left
  pub all_first : (m : Map) → AreFirstEntries m last entries → NoneAbove m last → AreOfMap m entries
  all_first m first none q = go (above_or last q)
    where
      go : IsAbove last q ⊎ (IsAbove last q → ⊥) → value_at entries q ≡ get m q.0
      go (inl behind) = none_found last entries all q behind ∙ sym (none q behind)
      go (inr before) = first.same q before

-- at first there is none
pub no_entries : AreOrderedTo None []
unfolding IsStrictlySortedBy
no_entries = record { ordered = tt; upto = λ k d inside. absurd (omega (arith, inside)) }

pub no_first : (m : Map) → AreFirstEntries m None []
no_first m = record { ordered = no_entries; same = λ key not_above. absurd (not_above tt) }
