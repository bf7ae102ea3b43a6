-- Keys with no value that a stream passes.
use Rattle.silt_dump.proofs.Common.{◌≡◌, ◌≤◌, ◌⊎◌, ℕ, true, false, IsTrue, List, Option, Some, None, inl, inr, refl, ap, sym, ◌∙◌, subst, arith, get, Content, Key, image_map, HasNext, IsAbove}
use Rattle.silt_dump.proofs.Common.{IsBelow, IsNextEntry, PassesTo, Streams, steps_left, value_len_of, EntryStream}
use Rattle.silt_dump.proofs.Keys.{above_or, above_trans, compared}

-- a stream has passed keys with no value alone
pub record HasSkipped (content : Content) (old new : EntryStream) (len : ℕ) : Type 0 where
  pub streams : Streams content new
  pub same : value_len_of new ≡ value_len_of old
  pub long : len ≡ value_len_of new
  pub fewer : steps_left new ≤ steps_left old
  pub later : (key : Key) → IsAbove new.last key → IsAbove old.last key
  pub none : IsTrue content.honest → (key : Key) → IsAbove old.last key → (IsAbove new.last key → ⊥) → get (image_map content.shown) key.0 ≡ None

module _ (content : Content) (old mid : EntryStream) (long : ℕ) (skipped : HasSkipped content old mid long) where
  -- one more with no value
  pub skips_more : (new : EntryStream) (key : Key) (value : List ℕ) → PassesTo content mid new key
      → (IsTrue content.honest → HasNext (image_map content.shown) mid.last (Some (key, false)) value) → HasSkipped content old new long
  skips_more new key value passes next = record {
    streams = passes.streams;
    same = passes.same ∙ skipped.same;
    long = skipped.long ∙ sym passes.same;
    fewer = omega (arith, passes.fewer, skipped.fewer);
    later = λ q above. skipped.later q (above_trans mid.last key q passes.above (subst (λ (last : Option Key). IsAbove last q) passes.last above));
    none = λ honest q above not_above. none honest q above (λ below. not_above (subst (λ (last : Option Key). IsAbove last q) (sym passes.last) below)) (above_or mid.last q);
  }
    where
      none : IsTrue content.honest → (q : Key) → IsAbove old.last q → (IsBelow key q → ⊥) → IsAbove mid.last q ⊎ (IsAbove mid.last q → ⊥) → get (image_map content.shown) q.0 ≡ None
      none honest q above not_above (inr before) = skipped.none honest q above before
      none honest q above not_above (inl behind) = go (compared q key)
        where
          go : IsBelow q key ⊎ ((q.0 ≡ key.0) ⊎ IsBelow key q) → get (image_map content.shown) q.0 ≡ None
          go (inl below) = (next honest).0 q behind below
          go (inr (inl equal)) = ap (get (image_map content.shown)) equal ∙ (next honest).1
          go (inr (inr higher)) = absurd (not_above higher)

  -- then one with a value
  pub skips_to : (new : EntryStream) (key : Key) → PassesTo content mid new key → PassesTo content old new key
  skips_to new key passes = record {
    streams = passes.streams;
    above = skipped.later key passes.above;
    last = passes.last;
    fewer = omega (arith, passes.fewer, skipped.fewer);
    same = passes.same ∙ skipped.same;
  }

  pub next_entry : IsTrue content.honest → (key : Key) (value : List ℕ) → HasNext (image_map content.shown) mid.last (Some (key, true)) value
      → IsNextEntry (image_map content.shown) old.last (Some key) value
  next_entry honest key value next = (λ q above below. go q above below (above_or mid.last q), next.1)
    where
      go : (q : Key) → IsAbove old.last q → IsBelow q key → IsAbove mid.last q ⊎ (IsAbove mid.last q → ⊥) → get (image_map content.shown) q.0 ≡ None
      go q above below (inl behind) = next.0 q behind below
      go q above below (inr before) = skipped.none honest q above before

  -- or the end
  pub no_entry : IsTrue content.honest → (value : List ℕ) → HasNext (image_map content.shown) mid.last None value → IsNextEntry (image_map content.shown) old.last None value
  no_entry honest value next q above = go (above_or mid.last q)
    where
      go : IsAbove mid.last q ⊎ (IsAbove mid.last q → ⊥) → get (image_map content.shown) q.0 ≡ None
      go (inl behind) = next q behind
      go (inr before) = skipped.none honest q above before

-- at first none was skipped
pub skips_none : (content : Content) (old : EntryStream) (long : ℕ) → Streams content old → long ≡ value_len_of old → HasSkipped content old old long
skips_none content old long streams is = record {
  streams = streams;
  same = refl;
  long = is;
  fewer = omega arith;
  later = λ key above. above;
  none = λ honest key above not_above. absurd (not_above above);
}
