-- The keys and the bytes of the entries that a merge wrote.
use Rattle.silt_merge.proofs.Common.{◌≡◌, ℕ, suc, ◌+◌, ◌≤◌, Bool, true, false, ◌||◌, cond, List, [], ◌∷◌, ◌++◌, filter, length, take, slice_get, Option, Some, None, refl, sym, ap, ◌∙◌, arith}
use Rattle.silt_merge.proofs.Common.{slice_cmp, and_parts, ltb-true, Key, StoredRow, entries_bytes, entry_row, is_put_row, keys_of, has_row_with, hashed_after, written_after, due_rows, is_written}
use Rattle.silt_merge.proofs.Common.{IsBuildingOf, is_above, is_lt, nat_cmp, rules, append-nil, length-append, map-append, take_all, take_at, keys_after, bytes_more, Building, EndWith}
use Rattle.silt_merge.proofs.Deciding.{before_at}
use Rattle.silt_merge.proofs.Newest.{Rises, key_itself}

-- ---- the entry that is written

-- a put that is the only one is that of its row
own_row : (bytes : List ℕ) (row : StoredRow) → entry_row bytes ∷ [] ≡ filter is_put_row (row ∷ []) → entry_row bytes ≡ row
own_row bytes row is = search arith

-- and it is a put
pub puts_row : (bytes : List ℕ) (row : StoredRow) → entry_row bytes ∷ [] ≡ filter is_put_row (row ∷ []) → is_put_row row ≡ true
puts_row bytes row is = search arith

-- so many are written after an entry that is written if it has a value and the region has room
pub count_written : (most written : ℕ) (puts due : Bool) (count : ℕ) → due ≡ is_written puts written most → count ≡ written + cond (is_written due written most) 1 0 → count ≡ written_after due written
count_written most written puts due count due_is counted = search arith

-- this entry is written if it has a value, and the region has room
module _ (most written : ℕ) (old new : List StoredRow) (puts due : Bool) (bytes : List ℕ) (due_is : due ≡ is_written puts written most) (old_count : length old ≡ written) (room : written ≤ most)
    (made : new ≡ take most (old ++ due_rows due bytes)) where
  -- as if it were written whenever it has a value, up to the room that there is
  pub rows_due : new ≡ take most (old ++ due_rows puts bytes)
  rows_due = search (arith, take_at)

  -- their bytes
  pub bytes_written : entries_bytes new ≡ hashed_after due (entries_bytes old) bytes
  bytes_written = search (arith, take_all, length-append, ltb-true, and_parts, append-nil, bytes_more)

  -- and their keys, if it is the entry of this row
  pub keys_written : (row : StoredRow) (key : List ℕ) → due_rows puts bytes ≡ filter is_put_row (row ∷ []) → row.key ≡ key → keys_of new ≡ keys_after due (keys_of old) key
  keys_written row key its same = search (arith, take_all, length-append, ltb-true, append-nil, map-append)

-- ---- a key of the index

-- and still if the second is replaced by what follows of it
either : (b c d : Bool) → (c ≡ true → d ≡ true) → (b || c) ≡ true → (b || d) ≡ true
either true c d step is = refl
either false c d step is = step is

-- the last of some keys is that of a row
has_last : (rows : List StoredRow) (front : List (List ℕ)) (key : List ℕ) → keys_of rows ≡ front ++ key ∷ [] → has_row_with key rows ≡ true
has_last [] [] key is = absurd (cc)
has_last [] (first ∷ front) key is = absurd (cc)
has_last (row ∷ rows) [] key is = search (arith, key_itself)
has_last (row ∷ rows) (first ∷ front) key is = search (arith, has_last rows front key)

-- a row of a beginning is one of all
has_taken : (count : ℕ) (rows : List StoredRow) (key : List ℕ) → has_row_with key (take count rows) ≡ true → has_row_with key rows ≡ true
has_taken (suc count) (row ∷ rows) key has = either _ _ _ (has_taken count rows key) has
has_taken count rows key has = search (rules, arith)

-- a put is one of all rows
has_put : (rows : List StoredRow) (key : List ℕ) → has_row_with key (filter is_put_row rows) ≡ true → has_row_with key rows ≡ true
has_put [] key has = has
has_put (row ∷ rows) key has = search (arith, has_put rows key)

-- the key of the next row is above the last one of the index
pub above_index : (rows newest : List StoredRow) (index : Building) (decided most : ℕ) (row : StoredRow) (key : List ℕ) → Rises newest → IsBuildingOf (keys_of rows) index
    → rows ≡ take most (filter is_put_row (take decided newest)) → slice_get newest decided ≡ Some row → row.key ≡ key → is_above index.last key ≡ true
above_index rows newest index decided most row key rises built is there same = go _ built.last_is
  where
    go : (o : Option Key) → EndWith (keys_of rows) o → is_above o key ≡ true
    go None none = refl
    go (Some last) ends =
        let taken : has_row_with last.0 (take most (filter is_put_row (take decided newest))) ≡ true = sym (ap (has_row_with last.0) is) ∙ has_last rows ends.0 last.0 ends.1 in
        let before = has_put _ last.0 (has_taken most _ last.0 taken) in
        ap is_lt (ap (slice_cmp nat_cmp last.0) (sym same) ∙ before_at newest decided last.0 row rises before there)
