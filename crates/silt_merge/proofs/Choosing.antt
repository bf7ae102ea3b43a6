-- The key that is decided next is the lowest one, and by what it is decided.
use Rattle.silt_merge.proofs.Common.{◌≡◌, ◌≢◌, ℕ, ◌<◌, nat_lt, Bool, true, false, List, [], length, slice_get, Option, Some, None, option_map, inl, inr, refl, sym, subst, ap, ◌∙◌, Ordering, Less}
use Rattle.silt_merge.proofs.Common.{Equal, Greater, slice_cmp, exact_bytes, slice_get_within, Key, entry_row, StoredRow, key_of_row, key_at, IsNextEntry, is_above, is_behind, source_at, Choice}
use Rattle.silt_merge.proofs.Common.{Source, is_some, lt-ltb, arith, rules, match_ordering, nat_cmp, not_below_itself, IsFirstWaiting, IsOffered, choice_of, lower_choice}
use Rattle.std.specs.Cmp.Lexicographic.{nat_list_cmp_total}
use Rattle.silt_merge.proofs.Deciding.{IsLowest}
use Rattle.silt_merge.proofs.Newest.{turned}

-- ---- on any disk

-- of two keys only one is lower
not_both : (a b : List ℕ) → slice_cmp nat_cmp a b ≡ Less → slice_cmp nat_cmp b a ≢ Less
not_both a b less other = not_below_itself a a refl (nat_list_cmp_total.trans a b a less other)

-- the choice of a row that waits
offered_row : (waiting : List (Key × Source)) (last : Option Key) (key : Key) (source : Source) (choice : Choice) → IsFirstWaiting waiting (Some (key, source))
    → ((key : List ℕ) (its : Source) → source_at waiting key ≡ Some its → is_above last key ≡ true) → choice.key ≡ key → choice.source ≡ Some source → IsOffered waiting last choice
offered_row waiting last key source choice is above its_key its_source = search arith

-- that of the next entry, which is below each row
offered_entry : (waiting : List (Key × Source)) (last : Option Key) (next : Key) (choice : Choice) → choice.key ≡ next → choice.source ≡ None → choice.passes ≡ true
    → is_behind last (Some next) ≡ false → ((key : List ℕ) (its : Source) → source_at waiting key ≡ Some its → slice_cmp nat_cmp key next.0 ≢ Less) → IsOffered waiting last choice
offered_entry waiting last next choice its_key none passes ahead least = search arith

-- the choice of the lower of two keys
lower_is : (key : Key) (source : Source) (next : Key) (o : Ordering) → slice_cmp nat_cmp key.0 next.0 ≡ o
    → lower_choice key source next ≡ match_ordering o (record { key = key; source = Some source; passes = false })
    (record { key = key; source = Some source; passes = true }) (record { key = next; source = None; passes = true })
lower_is key source next o is = search arith

-- what is chosen is offered
pub offered : (waiting : List (Key × Source)) (last : Option Key) (first : Option (Key × Source)) (next : Option Key) (choice : Choice)
    → IsFirstWaiting waiting first → choice_of first next ≡ Some choice → is_behind last next ≡ false
    → ((key : List ℕ) (its : Source) → source_at waiting key ≡ Some its → is_above last key ≡ true) → IsOffered waiting last choice
offered waiting last (Some (key, source)) (Some next) choice is chosen ahead above =
    let it : lower_choice key source next ≡ choice = cc in
    let go : (o : Ordering) → slice_cmp nat_cmp key.0 next.0 ≡ o → IsOffered waiting last (lower_choice key source next) = elim [
      | Less ↦ λ o. subst (IsOffered waiting last) (sym (lower_is key source next Less o)) (offered_row _ last key source _ is above refl refl)
      | Equal ↦ λ o. subst (IsOffered waiting last) (sym (lower_is key source next Equal o)) (offered_row _ last key source _ is above refl refl)
      | Greater ↦ λ o. rw (← (lower_is key source next Greater o)) at (offered_entry waiting last next (record { key = next; source = None; passes = true }) refl refl
          refl ahead (λ other its waits less. is.1 other its waits (nat_list_cmp_total.trans other next.0 key.0 less (turned key.0 next.0 o))))
    ] in
    rw it at (go (slice_cmp nat_cmp key.0 next.0) refl)
offered waiting last first next choice is chosen ahead above = search (rules, arith)

-- ---- on an honest disk

-- a choice is of the lowest key, whose row waits or is the next entry
pub record IsChosen (entries : List StoredRow) (passed : ℕ) (bytes : List ℕ) (row_of : Source → StoredRow) (waiting : List (Key × Source)) (choice : Choice) : Type 0 where
  pub lowest : IsLowest entries passed (λ key. option_map row_of (source_at waiting key)) choice.key.0
  pub source : source_at waiting choice.key.0 ≡ choice.source
  pub passes : choice.passes ≡ true → (passed < length entries) × (key_at entries passed ≡ choice.key.0)
  pub stays : choice.passes ≡ false → passed < length entries → slice_cmp nat_cmp choice.key.0 (key_at entries passed) ≡ Less
  pub entry : choice.source ≡ None → (slice_get entries passed ≡ Some (entry_row bytes)) × (choice.passes ≡ true)

-- what a choice of a row is of
map_some : {A B : Type 0} (f : A → B) (o : Option A) (y : B) → option_map f o ≡ Some y → (x : A) × (o ≡ Some x)
map_some f None y is = absurd (cc)
map_some f (Some x) y is = (x, refl)

module _ (entries : List StoredRow) (passed : ℕ) (bytes : List ℕ) (row_of : Source → StoredRow) (waiting : List (Key × Source)) where
  abbrev waits : List ℕ → Option StoredRow
  waits key = option_map row_of (source_at waiting key)

  -- no row waits if there is none
  none_waits : waiting ≡ [] → (key : List ℕ) → source_at waiting key ≡ None
  none_waits none key = ap (λ l. source_at l key) none

  -- the place of the next entry
  next_there : (next : Key) → IsNextEntry entries passed bytes (Some next) → (passed < length entries) × (key_at entries passed ≡ next.0)
  next_there next is = (slice_get_within entries passed (entry_row bytes) is.0, key_of_row entries passed (entry_row bytes) is.0 ∙ sym is.1)

  -- there is none
  no_next : is_some {T = Key} None ≡ nat_lt passed (length entries) → passed < length entries → ⊥
  no_next none below = let some = lt-ltb passed (length entries) below in absurd (cc)

  -- no row waits for a key below the first
  not_before : (key : Key) (source : Source) → IsFirstWaiting waiting (Some (key, source)) → (other : List ℕ) (row : StoredRow) → waits other ≡ Some row → slice_cmp nat_cmp other key.0 ≢ Less
  not_before key source is other row some = let its = map_some row_of _ row some in is.1 other its.0 its.1

  -- the next entry, if its key is less than that of each row
  chosen_entry : (next : Key) → IsNextEntry entries passed bytes (Some next) → ((other : List ℕ) (source : Source) → source_at waiting other ≡ Some source → slice_cmp nat_cmp next.0 other ≡ Less)
      → IsChosen entries passed bytes row_of waiting (record { key = next; source = None; passes = true })
  chosen_entry next is above =
      let there = next_there next is in
      record {
        lowest = record {
          is = inr there;
          rows = λ other row some. let its = map_some row_of _ row some in not_both next.0 other (above other its.0 its.1);
          entry = λ below less. not_below_itself _ next.0 there.1 less;
        };
        source = nothing _ refl;
        passes = λ same. there;
        stays = λ other. absurd (cc);
        entry = λ same. (is.0, refl);
      }
    where
      nothing : (o : Option Source) → source_at waiting next.0 ≡ o → source_at waiting next.0 ≡ None
      nothing None none = none
      nothing (Some source) some = absurd (not_below_itself next.0 next.0 refl (above next.0 source some))

  -- the first row, if the next entry is not less than it
  chosen_row : (key : Key) (source : Source) (passes : Bool) → IsFirstWaiting waiting (Some (key, source)) → (passed < length entries → slice_cmp nat_cmp (key_at entries passed) key.0 ≢ Less)
      → (passes ≡ true → (passed < length entries) × (key_at entries passed ≡ key.0)) → (passes ≡ false → passed < length entries → slice_cmp nat_cmp key.0 (key_at entries passed) ≡ Less)
      → IsChosen entries passed bytes row_of waiting (record { key = key; source = Some source; passes = passes })
  chosen_row key source passes is entry with_it without = record {
    lowest = record { is = inl (row_of source, ap (option_map row_of) is.0); rows = not_before key source is; entry = entry };
    source = is.0;
    passes = with_it;
    stays = without;
    entry = λ none. absurd (cc);
  }

  pub chosen : (first : Option (Key × Source)) (next : Option Key) (choice : Choice) → IsFirstWaiting waiting first → IsNextEntry entries passed bytes next
      → is_some next ≡ nat_lt passed (length entries) → choice_of first next ≡ Some choice → IsChosen entries passed bytes row_of waiting choice
  chosen None None choice is there some made = absurd (cc)
  chosen None (Some next) choice is there some made =
      let it : record { key = next; source = None; passes = true } ≡ choice = cc in
      rw it at (chosen_entry next there (λ other source waits_for. let none = none_waits is other in absurd (cc)))
  chosen (Some (key, source)) None choice is there some made =
      let it : record { key = key; source = Some source; passes = false } ≡ choice = cc in
      rw it at (chosen_row key source false is (λ below. absurd (no_next some below)) (λ same. absurd (cc)) (λ same below. absurd (no_next some below)))
  chosen (Some (key, source)) (Some next) choice is there some made =
      let it : lower_choice key source next ≡ choice = cc in
      let at = next_there next there in
      let go : (o : Ordering) → slice_cmp nat_cmp key.0 next.0 ≡ o → IsChosen entries passed bytes row_of waiting (lower_choice key source next) = elim [
        | Less ↦ λ o. subst (IsChosen entries passed bytes row_of waiting) (sym (lower_is key source next Less o)) (chosen_row key source false is (λ below less. not_both key.0 next.0 o (ap
            (λ k. slice_cmp nat_cmp k key.0) (sym at.1) ∙ less)) (λ same. absurd (cc)) (λ same below. ap (slice_cmp nat_cmp key.0) at.1 ∙ o))
        | Equal ↦ λ o. subst (IsChosen entries passed bytes row_of waiting) (sym (lower_is key source next Equal o)) (chosen_row key source true is (λ below less. not_below_itself _ key.0
            (at.1 ∙ sym (exact_bytes key.0 next.0 o)) less) (λ same. (at.0, at.1 ∙ sym (exact_bytes key.0 next.0 o))) (λ same. absurd (cc)))
        | Greater ↦ λ o. rw (← (lower_is key source next Greater o)) at (chosen_entry next there (λ other its waits_for. below_all key.0 next.0 other (turned key.0 next.0
            o) (is.1 other its waits_for)))
      ] in
      rw it at (go (slice_cmp nat_cmp key.0 next.0) refl)
    where
      below_all : (key next other : List ℕ) → slice_cmp nat_cmp next key ≡ Less → slice_cmp nat_cmp other key ≢ Less → slice_cmp nat_cmp next other ≡ Less
      below_all key next other less least =
          let go : (o : Ordering) → slice_cmp nat_cmp other key ≡ o → slice_cmp nat_cmp next other ≡ Less = elim [
            | Less ↦ λ o. absurd (least o)
            | Equal ↦ λ o. ap (slice_cmp nat_cmp next) (exact_bytes other key o) ∙ less
            | Greater ↦ λ o. nat_list_cmp_total.trans next key other less (turned other key o)
          ] in
          go (slice_cmp nat_cmp other key) refl
