-- Lists whose items are changed one after the other, and lists that are related item by item.
use Rattle.silt_session.proofs.Common.{◌≡◌, ◌<◌, ◌≤◌, ℕ, ◌+◌, List, [], ◌∷◌, ◌++◌, length, take, drop, get_or, refl, arith, AllZip, take_all, StepsThrough, set, changed_next, written_back}

-- ---- a list that is changed in place, item by item

-- all items are changed
pub changed_all : {X : Type 0} (Rel : List X → List X → Type 0) (xs ys zs : List X) (i n : ℕ) → length xs ≤ i → length ys ≡ length xs → xs ≡ zs → n ≡ length xs
    → Rel (take i xs) (take i ys) → Rel zs (take n (ys ++ drop (length ys) zs))
changed_all Rel xs ys zs i n over len is count all =
    rw (written_back xs ys zs n len is count) (rw (take_all i ys (omega (arith, over, len)), take_all i xs over, is) at all)

-- ---- steps through lists

module _ {S X : Type 0} (Steps : S → X → X → S → Type 0) where
  -- one step more
  pub steps_more : (before mid after : S) (xs ys : List X) (x y : X) → StepsThrough Steps before xs ys mid → Steps mid x y after
      → StepsThrough Steps before (xs ++ x ∷ []) (ys ++ y ∷ []) after
  steps_more before mid after [] [] x y all one = (after, rw all at one, refl)
  steps_more before mid after (a ∷ xs) (b ∷ ys) x y all one = (all.0, all.1, steps_more all.0 mid after xs ys x y all.2 one)
  steps_more before mid after xs ys x y all one = absurd all

  -- the next item of a list that is changed in place
  pub steps_next : (before mid after : S) (xs ys : List X) (i : ℕ) (d new : X) → i < length xs → length ys ≡ length xs → drop i ys ≡ drop i xs
      → StepsThrough Steps before (take i xs) (take i ys) mid → Steps mid (get_or ys i d) new after
      → StepsThrough Steps before (take (i + 1) xs) (take (i + 1) (set ys i new)) after
  steps_next before mid after xs ys i d new in_xs len same all one =
      changed_next (λ (us vs : List X). StepsThrough Steps before us vs after) xs ys i d new in_xs len same
      (λ is. steps_more before mid after _ _ _ new all (rw is at one))

  -- a fact of both states that each step keeps
  pub steps_keep : (R : S → S → Type 0) → ((s : S) → R s s) → ((a b c : S) → R a b → R b c → R a c) → ((a b : S) (x y : X) → Steps a x y b → R a b)
      → (before after : S) (xs ys : List X) → StepsThrough Steps before xs ys after → R before after
  steps_keep R same both one before after [] [] all = rw all (same before)
  steps_keep R same both one before after (x ∷ xs) (y ∷ ys) all =
      both before all.0 after (one before all.0 x y all.1) (steps_keep R same both one all.0 after xs ys all.2)
  steps_keep R same both one before after xs ys all = absurd all

-- ---- lists that are related item by item

module _ {X Y : Type 0} (R : X → Y → Type 0) where
  pub zip_append : (xs : List X) (ys : List Y) (us : List X) (vs : List Y) → AllZip R xs ys → AllZip R us vs → AllZip R (xs ++ us) (ys ++ vs)
  zip_append [] [] us vs first second = second
  zip_append (x ∷ xs) (y ∷ ys) us vs first second = (first.0, zip_append xs ys us vs first.1 second)
  zip_append xs ys us vs first second = absurd first

module _ {X : Type 0} (R : X → X → Type 0) where
  -- the next item of a list that is changed in place
  pub zip_next : (xs ys : List X) (i : ℕ) (d new : X) → i < length xs → length ys ≡ length xs → drop i ys ≡ drop i xs
      → AllZip R (take i xs) (take i ys) → R (get_or ys i d) new → AllZip R (take (i + 1) xs) (take (i + 1) (set ys i new))
  zip_next xs ys i d new in_xs len same all one =
      changed_next (AllZip R) xs ys i d new in_xs len same
      (λ is. zip_append R _ _ (_ ∷ []) (new ∷ []) all (rw is at one, tt))
