-- Lists of shards that are changed one after the other.
use Rattle.silt_shards.proofs.Common.{◌≡◌, ◌<◌, ℕ, suc, ◌+◌, Some, List, [], ◌∷◌, ◌++◌, length, take, drop, set, get_or, sym, ◌∙◌, ap, subst, arith, rules, All, slice_get, take-append_seam}
use Rattle.silt_shards.proofs.Common.{drop_more, drop-set-lt, get_or-set_other, get_or-set_same, length-set, take_more, take_more_set, none-some, slice_get_within, get_or_from_slice_get, cases_eq}
use Rattle.std.proofs.lemmas.Grind.{drop_more_same}

module _ {X : Type 0} where
  -- the item that was set
  pub get_set_same : (xs : List X) (i : ℕ) (x y : X) → slice_get xs i ≡ Some x → slice_get (set xs i y) i ≡ Some y
  get_set_same (a ∷ xs) (suc i) x y there = get_set_same xs i x y there
  get_set_same xs i x y there = search (rules, arith, none-some)

  -- another item
  pub get_set_other : (xs : List X) (i j : ℕ) (y : X) → (i ≡ j → ⊥) → slice_get (set xs i y) j ≡ slice_get xs j
  get_set_other (a ∷ xs) (suc i) (suc j) y other = get_set_other xs i j y (λ same. other (ap suc same))
  get_set_other xs i j y other = search (rules, arith)

  -- what holds of each item holds of one that is looked up
  pub all_at : (P : X → Type 0) (xs : List X) (i : ℕ) (x : X) → All P xs → slice_get xs i ≡ Some x → P x
  all_at P xs i x every there = subst P (get_or_from_slice_get xs i x x there) (every i x (slice_get_within xs i x there))

  -- it still holds if one item is set to one of which it holds
  pub all_set : (P : X → Type 0) (xs : List X) (i : ℕ) (y : X) → All P xs → P y → All P (set xs i y)
  all_set P xs i y every new = search (arith, length-set, cases_eq, get_or-set_same, get_or-set_other)

  -- what is not reached yet is the same in both lists
  same_at : (xs ys : List X) (i : ℕ) (d : X) → i < length xs → i < length ys → drop i ys ≡ drop i xs → get_or ys i d ≡ get_or xs i d
  same_at xs ys i d in_xs in_ys same = ap (λ (l : List X). get_or l 0 d) (sym (drop_more ys i d in_ys) ∙ same ∙ drop_more xs i d in_xs)

  -- what comes after an item that was reached is the same in both lists
  pub rest_next : (xs ys : List X) (i : ℕ) (new : X) → drop i ys ≡ drop i xs → drop (i + 1) (set ys i new) ≡ drop (i + 1) xs
  rest_next xs ys i new same = drop-set-lt (i + 1) ys i new (omega arith) ∙ drop_more_same ys xs i same

  -- a list that was written back whole
  pub written_back : (xs ys zs : List X) (n : ℕ) → length ys ≡ length xs → xs ≡ zs → n ≡ length xs → take n (ys ++ drop (length ys) zs) ≡ ys
  written_back xs ys zs n len is count =
      let same : n ≡ length ys = omega (arith, len, count) in
      ap (λ (m : ℕ). take m (ys ++ drop (length ys) zs)) same ∙ take-append_seam ys (drop (length ys) zs)

  module _ (Rel : List X → List X → Type 0) where
    -- one item more is changed
    pub changed_next : (xs ys : List X) (i : ℕ) (d new : X) → i < length xs → length ys ≡ length xs → drop i ys ≡ drop i xs
        → (get_or ys i d ≡ get_or xs i d → Rel (take i xs ++ get_or xs i d ∷ []) (take i ys ++ new ∷ []))
        → Rel (take (i + 1) xs) (take (i + 1) (set ys i new))
    changed_next xs ys i d new in_xs len same more = search (arith, take_more, take_more_set, same_at)
