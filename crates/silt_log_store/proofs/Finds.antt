-- What the first match means for the last row of a key.
use Rattle.silt_log_store.proofs.Common.{◌≡◌, ◌≢◌, ◌⊎◌, ℕ, zero, suc, ◌<◌, List, [], ◌∷◌, ◌++◌, length, get_or, Option, Some, None, option_map, inl, inr, refl, sym, subst, ap, ◌∙◌, arith}
use Rattle.silt_log_store.proofs.Common.{bytes_eq, cases_Bool, cases_eq, Candidate, Slots, first_bucket, second_bucket, key_pair, candidates_of, IsNewest, Indexes, slot_of_key, index_of_keys}
use Rattle.silt_log_store.proofs.Common.{placed_or_replaced, find_law, push_law, no_key, holds_from_pair, StoredRow, keys_of, FindsLast, IsFirstMatch, candidate_of}
use Rattle.std.proofs.lemmas.Slice.Eq.{bytes_eq-Decides}
use Rattle.silt_cuckoo.proofs.Matching.{Stands, candidates_standing}
use Rattle.silt_log_store.specs.declared.lookup.Match.{Match}
use Rattle.silt_log_store.proofs.Rows.{key_of_row, keys_count}
use Rattle.silt_log_store.proofs.Searching.{found_passes, all_contained}

-- the last of the first n keys that is this one, or none of them is
abbrev LastBelow : List (List ℕ) → List ℕ → ℕ → ℕ → Type 0
LastBelow keys key n p = (p < n) × (get_or keys p [] ≡ key) × ((later : ℕ) → p < later → later < n → get_or keys later [] ≢ key)

last_below : (keys : List (List ℕ)) (key : List ℕ) (n : ℕ) → ((p : ℕ) × LastBelow keys key n p) ⊎ ((p : ℕ) → p < n → get_or keys p [] ≢ key)
last_below keys key zero = inr (λ p low. absurd (omega arith))
last_below keys key (suc n) = elim (cases_Bool (bytes_eq (get_or keys n []) key)) [
  | inl passes ↦ inl (n, (omega arith, (bytes_eq-Decides (get_or keys n []) key).0 passes, λ later above below. absurd (omega arith)))
  | inr fails ↦
      let other : get_or keys n [] ≢ key = λ same. let passes = (bytes_eq-Decides (get_or keys n []) key).1 same in cc in
      elim (last_below keys key n) [
        | inl (p, (low, is, last)) ↦ inl (
          p,
          (
            omega arith,
            is,
            λ later above below. elim (cases_eq later n) [
              | inl same ↦ λ at. other (ap (λ k. get_or keys k []) (sym same) ∙ at)
              | inr before ↦ last later above (omega arith)
            ],
          ),
        )
        | inr none ↦ inr (λ p below. elim (cases_eq p n) [
          | inl same ↦ λ at. other (ap (λ k. get_or keys k []) (sym same) ∙ at)
          | inr before ↦ none p (omega arith)
        ])
      ]
]

-- a key without a slot has no place
none_of_key : (keys : List (List ℕ)) (slots : Slots) (buckets : ℕ) (key : List ℕ) → Indexes slots buckets keys → slot_of_key keys slots key ≡ None
    → (place : ℕ) → place < length keys → get_or keys place [] ≢ key
none_of_key keys slots buckets key index none place below = elim (last_below keys key (length keys)) [
  | inl (p, (low, is, last)) ↦
      let newest : IsNewest keys p = (low, λ later above under same. last later above under (same ∙ is)) in
      absurd (no_key keys slots key p none (holds_from_pair slots p (key_pair buckets (get_or keys p [])) (index.newest p newest)) is)
  | inr none_below ↦ none_below place below
]

module _ (rows : List StoredRow) (slots : Slots) (buckets : ℕ) (key : List ℕ) (index : Indexes slots buckets (keys_of rows)) where
  candidates : List Candidate
  candidates = candidates_of slots (first_bucket buckets key) (second_bucket buckets key)

  -- the slot of a match is that of the key
  pub standing_is : (found : Option Match) → IsFirstMatch rows (candidates_of slots (first_bucket buckets key) (second_bucket buckets key)) key found
      → option_map (λ (m : Match). m.slot) found ≡ slot_of_key (keys_of rows) slots key
  standing_is found first = slots_of found ∙ ap (option_map (λ (c : Candidate). c.slot)) first.first ∙ sym (find_law buckets (keys_of rows) slots key index)
    where
      slots_of : (o : Option Match) → option_map (λ (m : Match). m.slot) o ≡ option_map (λ (c : Candidate). c.slot) (option_map candidate_of o)
      slots_of None = refl
      slots_of (Some m) = refl

  -- a match is the key's last row
  pub match_is_last : (m : Match) → IsFirstMatch rows (candidates_of slots (first_bucket buckets key) (second_bucket buckets key)) key (Some m) → FindsLast rows key (Some m.found)
  match_is_last m first =
      let it = found_passes (λ (c : Candidate). bytes_eq (get_or (keys_of rows) c.place []) key) _ _ (sym first.first) in
      let stands : Stands slots (candidate_of m) = all_contained (Stands slots) _ _ (candidates_standing slots _ _) it.1 in
      let newest = index.no_other m.found.place (m.slot, stands) in
      let same : get_or (keys_of rows) m.found.place [] ≡ key = (bytes_eq-Decides (get_or (keys_of rows) m.found.place []) key).0 it.0 in
      let row : StoredRow = first.kind.0 in (
        row,
        record {
          there = first.kind.1;
          has_key = sym (key_of_row rows m.found.place row first.kind.1) ∙ same;
          last = λ later above below at. newest.1 later above (subst (λ n. later < n) (sym (keys_count rows)) below) (at ∙ sym same);
        },
        first.kind.2,
      )

  -- if there is no match, no row has the key
  pub none_is_none : IsFirstMatch rows (candidates_of slots (first_bucket buckets key) (second_bucket buckets key)) key None → FindsLast rows key None
  none_is_none first = λ place below. none_of_key (keys_of rows) slots buckets key index (sym (standing_is None first)) place (subst (λ n. place < n) (sym (keys_count rows)) below)

-- the table with a further key
pub next_table : (buckets : ℕ) (keys : List (List ℕ)) (slots : Slots) (key : List ℕ) → index_of_keys buckets keys ≡ Some slots
    → index_of_keys buckets (keys ++ key ∷ []) ≡ placed_or_replaced buckets slots key (length keys) (slot_of_key keys slots key)
next_table buckets keys slots key is = grind (arith, push_law)
