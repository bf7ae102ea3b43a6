-- The place that an index names for a key, and what the row there means for the look-up.
use Rattle.silt_sorted_store.proofs.Common.{◌≡◌, ◌≢◌, ℕ, ◌<◌, Bool, true, false, not, List, [], length, take, drop, slice_get, Some, None, sym, ◌∙◌, arith, cases_Bool, slice_get_within, StoredRow}
use Rattle.silt_sorted_store.proofs.Common.{entry_row, IsPlaceOfKey, FindsEntry, HasEntry, HasKeyAndValue, HasNoEntry, HasOnlyValue, HasValue, IsOnlyRow}
use Rattle.std.specs.Str.{bytes_eq}
use Rattle.std.proofs.lemmas.Slice.Eq.{bytes_eq-Decides}
use Rattle.silt_sorted_store.specs.Findings.{sorted_findings}
use Rattle.silt_sorted_store.proofs.Entries.{key_of_row, row_inside}
use Rattle.silt_sorted_store.proofs.Rising.{key_at, one_place}

module _ (rows : List StoredRow) (key : List ℕ) where
  -- if no place is named, no row has the key
  pub none_named : IsPlaceOfKey rows key None → HasNoEntry rows key
  none_named named = λ place inside at. let is = named place inside at in absurd (cc)

  -- nor if the row at the named place has another
  pub other_named : (place : ℕ) → IsPlaceOfKey rows key (Some place) → key_at rows place ≢ key → HasNoEntry rows key
  other_named place named other = search arith

  -- a row that has the key is the only one
  only_row : (place : ℕ) (row : StoredRow) → sorted_findings rows ≡ [] → slice_get rows place ≡ Some row → row.key ≡ key → IsOnlyRow rows key place row
  only_row place row none there has = search (arith, one_place, slice_get_within, key_of_row)

  -- the row at the place that has the key
  pub found_here : (place : ℕ) → sorted_findings rows ≡ [] → place < length rows → key_at rows place ≡ key → FindsEntry rows key (Some place)
  found_here place none inside at =
      let it = row_inside rows place inside in
      (it.0, only_row place it.0 none it.1 (sym (key_of_row rows place it.0 it.1) ∙ at))

  -- and its value
  pub value_here : (place : ℕ) (value : List ℕ) → sorted_findings rows ≡ [] → HasKeyAndValue rows place key value → HasOnlyValue rows key value
  value_here place value none has = (place, has.0, only_row place has.0 none has.1 has.2, has.3)

-- ---- what a comparison of two keys means

module _ (a b : List ℕ) (test : Bool) (tests : test ≡ not (bytes_eq a b)) where
  -- they differ
  pub keys_differ : test ≡ true → a ≢ b
  keys_differ is same = let passes = (bytes_eq-Decides a b).1 same in absurd (cc)

  -- they are the same
  pub keys_agree : test ≡ false → a ≡ b
  keys_agree is = search (arith, cases_Bool, bytes_eq-Decides)

-- ---- what reads of an entry mean

module _ (rows : List StoredRow) (place : ℕ) where
  -- the key of the entry that has these bytes
  pub key_of_entry : (bytes : List ℕ) → HasEntry rows place bytes → key_at rows place ≡ take 20 bytes
  key_of_entry bytes there = key_of_row rows place (entry_row bytes) there

  -- an entry that was read whole
  pub entry_has : (bytes key value : List ℕ) → HasEntry rows place bytes → take 20 bytes ≡ key → value ≡ drop 20 bytes → HasKeyAndValue rows place key value
  entry_has bytes key value there has is = (entry_row bytes, there, has, sym is)

  -- an entry that was read in two parts
  pub parts_have : (key value : List ℕ) → key_at rows place ≡ key → HasValue rows place value → HasKeyAndValue rows place key value
  parts_have key value at has = (has.0, has.1, sym (key_of_row rows place has.0 has.1) ∙ at, has.2)
