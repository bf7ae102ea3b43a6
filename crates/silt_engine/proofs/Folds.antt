-- Rows done on a map in memory.
use Rattle.silt_engine.proofs.Common.{◌≡◌, ◌<◌, ℕ, ◌+◌, ◌*◌, ◌==◌, true, false, List, [], ◌∷◌, ◌++◌, ◌-◌, length, filter, map, take, drop, get_or, Some, None, refl, ap, sym, ◌∙◌, subst, arith}
use Rattle.silt_engine.proofs.Common.{get-insert, get-remove, nat_list_cmp_total, length-drop, map-append, take_all, take_more, filter-append, get_or_from_slice_get, slice_get_within, Shape, Key}
use Rattle.silt_engine.proofs.Common.{slot_row, hash_rows, all_before, delete, map_after, put, command_of, oldest_first, map_after-append, entry_row, has_known_kind, StoredRow, key_cmp, stored_row}
use Rattle.silt_engine.proofs.Common.{Put, AreEntriesOf, DoesRows, empty, get-empty, eq_by_cmp_equiv, drop_more, before_more, HasEntry}
use Rattle.std.specs.BTreeMap as tree
use Rattle.std.specs.Ordering.{nat_cmp, eq_by_cmp}
use Rattle.std.specs.Cmp.Lexicographic.{slice_cmp}
use Rattle.std.specs.BTreeMap.{BTreeMap}
use Rattle.silt_hash_store.specs.Slots.{rows_before}

-- which of two keys is named first does not matter
tied : (a b : List ℕ) → eq_by_cmp (slice_cmp nat_cmp) a b ≡ eq_by_cmp (slice_cmp nat_cmp) b a
tied a b = (eq_by_cmp_equiv nat_list_cmp_total).symm a b

-- a put was done
pub does_put : (row : StoredRow) (key : Key) (before after : BTreeMap Key (List ℕ)) → row.kind ≡ 1 → row.key ≡ key.0
    → tree.Updates key_cmp before after key (Some row.value) → DoesRows (row ∷ []) before after
does_put row key before after kind same updates m are q =
    let is : command_of row ≡ put key.0 row.value = cc in
    cc (updates.0 q, are q, tied key.0 q.0, get-insert nat_list_cmp_total m key.0 row.value q.0)

-- a row that is this put was done
pub does_row : (row : StoredRow) (key : Key) (value : List ℕ) (before after : BTreeMap Key (List ℕ)) → row.kind ≡ 1 → key.0 ≡ row.key
    → value ≡ row.value → DoesRows (stored_row Put key value ∷ []) before after → DoesRows (row ∷ []) before after
does_row row key value before after kind same_key same_value does = search arith

-- a delete was done
pub does_delete : (row : StoredRow) (key : Key) (before after : BTreeMap Key (List ℕ)) → (row.kind == 1) ≡ false → row.key ≡ key.0
    → tree.UpdatesBy key_cmp (key_cmp key) before after None → DoesRows (row ∷ []) before after
does_delete row key before after kind same updates m are q =
    let is : command_of row ≡ delete key.0 = cc in
    cc (updates.0 q, are q, tied key.0 q.0, get-remove nat_list_cmp_total m key.0 q.0)

-- further rows were done
pub does_more : (rows more : List StoredRow) (a b c : BTreeMap Key (List ℕ)) → DoesRows rows a b → DoesRows more b c → DoesRows (rows ++ more) a c
does_more rows more a b c first second m are = search (arith, map-append, map_after-append)

-- one more row of some was done
pub does_next : (rows : List StoredRow) (n : ℕ) (row : StoredRow) (a b c : BTreeMap Key (List ℕ)) → n < length rows → get_or rows n row ≡ row
    → DoesRows (take n rows) a b → DoesRows (row ∷ []) b c → DoesRows (take (n + 1) rows) a c
does_next rows n row a b c inside is first second = rw (← (take_more rows n row inside ∙ ap (λ (r : StoredRow). take n rows ++ r ∷ []) is)) at (does_more (take n rows) (row ∷ []) a b c first second)

-- one more entry was done
pub does_entry : (rows : List StoredRow) (place : ℕ) (bytes : List ℕ) (key : Key) (value : List ℕ) (a b c : BTreeMap Key (List ℕ)) → HasEntry rows place bytes → key.0 ≡ take 20 bytes
    → value ≡ drop 20 bytes → DoesRows (take place rows) a b → DoesRows (stored_row Put key value ∷ []) b c → DoesRows (take (place + 1) rows) a c
does_entry rows place bytes key value a b c there key_is value_is first second =
    let row : StoredRow = entry_row bytes in
    does_next rows place row a b c (slice_get_within rows place row there) (get_or_from_slice_get rows place row row there) first (does_row row key value b c refl key_is value_is second)

-- ---- rows of hash stores

-- a row of a known kind was done
pub does_kept : (row : StoredRow) (before after : BTreeMap Key (List ℕ)) → has_known_kind row ≡ true → DoesRows (row ∷ []) before after → DoesRows (filter has_known_kind (row ∷ [])) before after
does_kept row before after known does = search arith

module _ (shape : Shape) (region : ℕ) (image : List ℕ) where
  -- no slot was done
  pub does_no_slot : (entries : BTreeMap Key (List ℕ)) → DoesRows (filter has_known_kind (rows_before shape region image 0)) entries entries
  unfolding rows_before
  does_no_slot entries m are = are

  -- one slot more was done
  pub does_slot : (slot : ℕ) (a b c : BTreeMap Key (List ℕ)) → DoesRows (filter has_known_kind (rows_before shape region image slot)) a b
      → DoesRows (filter has_known_kind (slot_row shape region image slot ∷ [])) b c → DoesRows (filter has_known_kind (rows_before shape region image (slot + 1))) a c
  does_slot slot a b c first second = search (arith, before_more, filter-append, does_more)

  -- all slots were done
  pub does_slots : (count : ℕ) (a b : BTreeMap Key (List ℕ)) → count ≡ 4 * shape.buckets
      → DoesRows (filter has_known_kind (rows_before shape region image count)) a b → DoesRows (filter has_known_kind (hash_rows shape region image)) a b
  does_slots count a b all does = rw (ap (rows_before shape region image) all ∙ sym (all_before shape region image)) at does

-- ---- all rows

-- from no entries
pub does_all : (rows : List StoredRow) (first last : BTreeMap Key (List ℕ)) → tree.IsEmpty first → DoesRows rows first last → AreEntriesOf (map_after empty (map command_of rows)) last
does_all rows first last none does = does empty (λ key. cc (get-empty (slice_cmp nat_cmp) key.0))

-- all of some rows were done
pub does_whole : (rows : List StoredRow) (n : ℕ) (a b : BTreeMap Key (List ℕ)) → length rows ≡ n → DoesRows (take n rows) a b → DoesRows rows a b
does_whole rows n a b counted does = rw (take_all n rows (omega (arith, counted))) at does

-- the bytes from a place on
pub bytes_from : (bytes : List ℕ) (n : ℕ) → take (length bytes - n) (drop n bytes) ≡ drop n bytes
bytes_from bytes n = take_all (length bytes - n) (drop n bytes) (omega (arith, length-drop n bytes))

-- the rows of one more log, newer than those that were done
pub does_log : {X : Type 0} (rows_of : X → List StoredRow) (logs : List X) (n k : ℕ) (log : X) (a b c : BTreeMap Key (List ℕ)) → k ≡ n + 1 → n < length logs → get_or logs n log ≡ log
    → DoesRows (oldest_first (map rows_of (drop k logs))) a b → DoesRows (rows_of log) b c → DoesRows (oldest_first (map rows_of (drop n logs))) a c
does_log rows_of logs n k log a b c next inside is first second =
    let split : drop n logs ≡ log ∷ drop k logs = cc (drop_more logs n log inside) in
    subst (λ l. DoesRows (oldest_first (map rows_of l)) a c) (sym split) (does_more (oldest_first (map rows_of (drop k logs))) (rows_of log) a b c first second)
