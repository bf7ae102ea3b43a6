-- The facts of a set, one shard after the other.
use Rattle.silt_shards.proofs.Common.{◌≡◌, ◌<◌, ◌≤◌, ◌+◌, ℕ, suc, List, ◌∷◌, length, drop, get_or, inl, Option, Some, None, refl, sym, ap, subst, ◌∙◌, arith, drop-cons, Facts, AddsFacts, plus}
use Rattle.std.proofs.Math.ListN.{drop_of_length-le}

module _ {A : Type 0} (informs : A → Option Facts → Type 0) (shards : List A) where
  -- the shard with this number comes first of the rest
  rest_cut : (index : ℕ) (shard : A) → index < length shards → shard ≡ get_or shards index shard → drop index shards ≡ shard ∷ drop (index + 1) shards
  rest_cut index shard within is =
      let next : suc index ≡ index + 1 = omega arith in
      drop-cons shards index shard within ∙ ap (λ s. s ∷ drop (suc index) shards) (sym is) ∙ ap (λ n. shard ∷ drop n shards) next

  -- it adds its facts
  pub adds_one : (index : ℕ) (shard : A) (sum part : Facts) (facts : Option Facts) → index < length shards → shard ≡ get_or shards index shard
      → informs shard (Some part) → AddsFacts informs (plus sum part) (drop (index + 1) shards) facts → AddsFacts informs sum (drop index shards) facts
  adds_one index shard sum part facts within is gives rest = search (arith, rest_cut)

  -- it gives none
  pub adds_none : (index : ℕ) (shard : A) (sum : Facts) → index < length shards → shard ≡ get_or shards index shard
      → informs shard None → AddsFacts informs sum (drop index shards) None
  adds_none index shard sum within is gives = subst (λ l. AddsFacts informs sum l None) (sym (rest_cut index shard within is)) (inl (gives, refl))

  -- there are no more shards
  pub adds_end : (index : ℕ) (sum : Facts) → length shards ≤ index → AddsFacts informs sum (drop index shards) (Some sum)
  adds_end index sum past = subst (λ l. AddsFacts informs sum l (Some sum)) (sym (drop_of_length-le shards past)) refl
