-- A rebuild, row by row.
use Rattle.silt_log_store.proofs.Common.{◌≡◌, ℕ, ◌+◌, ◌<◌, ◌≤◌, false, List, [], ◌∷◌, ◌++◌, length, take, get_or, find, slice_get, Option, Some, None, IsTrue, IsSome, IfSome, option_map, sym}
use Rattle.silt_log_store.proofs.Common.{subst, ap, ◌∙◌, arith, length-append, is_some, bytes_eq, get_or-map, get_or_from_slice_get, slice_get_within, Content, Rests, Shape, kind_of, Key, Kind}
use Rattle.silt_log_store.proofs.Common.{Candidate, Slots, IsTable, IsBucketCount, PlacesBelow, bucket_count, empty_slots, entry_at, first_bucket, second_bucket, candidates_of, Indexes}
use Rattle.silt_log_store.proofs.Common.{index_of_keys, placed_or_replaced, slot_of_key, index_law, find_law, has_known_kind, StoredRow, puts_of, LogState, InBounds, IsScanned, IsKeyIndex}
use Rattle.silt_log_store.proofs.Common.{IsOfRows, AddsKey, IsHeldStore, IsFrozenStore}
use Rattle.silt_disk.proofs.Images.{left_at_rest}
use Rattle.silt_cuckoo.proofs.Search.{found_in_range}
use Rattle.silt_log.specs.Rows.{row_at, row_head, first_rows, log_rows}
use Rattle.silt_log_store.specs.Rebuild.{IsSoundBefore, IsFirstDamaged, IsFirstCrowded, IsRebuilt, IsRefusedRebuild, has_known_kind_at}
use Rattle.silt_log_store.specs.declared.index.KeyIndex.{KeyIndex}
use Rattle.silt_log_store.specs.declared.rebuild.RebuildError.{RebuildError}
use Rattle.silt_log_store.proofs.Exits.{index_none}
use Rattle.silt_log_store.proofs.Finds.{next_table}
use Rattle.silt_log_store.proofs.Rows.{keys_push, known_push, puts_push, rows_more, rows_taken, rows_count, rows_at}

-- ---- the keys and their table

-- the table of no keys
pub none_indexed : (index : KeyIndex) (buckets : ℕ) → bucket_count index.table ≡ buckets → index.table ≡ empty_slots buckets → index.keys.items ≡ [] → index.puts ≡ 0 → IsKeyIndex index
none_indexed index buckets count table keys puts = grind (arith, index_none)

-- the table holds the newest places
index_holds : (index : KeyIndex) → IsTable index.table → IsKeyIndex index → Indexes index.table (bucket_count index.table) index.keys.items
index_holds index table is = index_law (bucket_count index.table) index.keys.items index.table table.buckets is.indexed

-- so all places are those of keys
pub index_below : (index : KeyIndex) → IsTable index.table → IsKeyIndex index → PlacesBelow index.table (length index.keys.items)
index_below index table is = λ slot place held. ((index_holds index table is).no_other place (slot, held)).0

-- and the slot of a key has an entry
slot_has_entry : (keys : List (List ℕ)) (slots : Slots) (key : List ℕ) (slot : ℕ) → slot_of_key keys slots key ≡ Some slot → IsSome (entry_at slots slot)
slot_has_entry keys slots key slot is = grind (arith, found_in_range)

-- the slot of the first candidate of a key is that of the key
pub slot_is : (index : KeyIndex) (key : List ℕ) (first second : ℕ) (candidates : List Candidate) (keys : List (List ℕ)) (slot : Option ℕ) → IsTable index.table → IsKeyIndex index
    → first ≡ first_bucket (bucket_count index.table) key → second ≡ second_bucket (bucket_count index.table) key → candidates ≡ candidates_of index.table first second → keys ≡ index.keys.items
    → slot ≡ option_map (λ (c : Candidate). c.slot) (find (λ (c : Candidate). bytes_eq (get_or keys c.place []) key) candidates) → slot ≡ slot_of_key index.keys.items index.table key
slot_is index key first second candidates keys slot table is first_is second_is candidates_are keys_are slot_found =
    slot_found
    ∙ ap (λ ks. option_map (λ (c : Candidate). c.slot) (find (λ (c : Candidate). bytes_eq (get_or ks c.place []) key) candidates)) keys_are
    ∙ ap (λ cs. option_map (λ (c : Candidate). c.slot) (find (λ (c : Candidate). bytes_eq (get_or index.keys.items c.place []) key) cs))
    (candidates_are ∙ ap (λ n. candidates_of index.table n second) first_is ∙ ap (candidates_of index.table (first_bucket (bucket_count index.table) key)) second_is)
    ∙ sym (find_law (bucket_count index.table) index.keys.items index.table key (index_holds index table is))

-- a slot that is that of a key has an entry
pub slot_stands : (keys : List (List ℕ)) (slots : Slots) (key : List ℕ) (slot : Option ℕ) → slot ≡ slot_of_key keys slots key → IfSome slot (λ s. IsSome (entry_at slots s))
slot_stands keys slots key None is = tt
slot_stands keys slots key (Some slot) is = slot_has_entry keys slots key slot (sym is)

-- a key that was placed
pub key_added : (kind : Kind) (key : List ℕ) (old new : KeyIndex) (place : ℕ) → IsKeyIndex old → place ≡ length old.keys.items
    → placed_or_replaced (bucket_count old.table) old.table key place (slot_of_key old.keys.items old.table key) ≡ Some new.table
    → bucket_count new.table ≡ bucket_count old.table → new.keys.items ≡ old.keys.items ++ key ∷ [] → new.puts ≡ old.puts + puts_of kind → AddsKey kind key old new
key_added kind key old new place is at placed count keys puts = grind (arith, next_table, length-append)

-- a key that found no place
pub key_refused : (key : List ℕ) (index : KeyIndex) (place : ℕ) → IsKeyIndex index → place ≡ length index.keys.items
    → placed_or_replaced (bucket_count index.table) index.table key place (slot_of_key index.keys.items index.table key) ≡ None
    → index_of_keys (bucket_count index.table) (index.keys.items ++ key ∷ []) ≡ None
key_refused key index place is at none = grind (arith, next_table)

-- ---- the rows

-- what a head means for its row
head_says : (row : StoredRow) (kind : Kind) (key : Key) → row_head row ≡ Some (kind, key) → (kind_of row.kind ≡ Some kind) × (row.key ≡ key.0)
unfolding row_head
head_says row kind key is = grind arith

-- a head with no known kind
head_says_none : (row : StoredRow) → row_head row ≡ None → has_known_kind row ≡ false
unfolding row_head
head_says_none row is = grind arith

-- whether the row of a number is of a known kind
known_at : (rows : List StoredRow) (place : ℕ) (row : StoredRow) → slice_get rows place ≡ Some row → has_known_kind_at rows place ≡ has_known_kind row
known_at rows place row is = get_or-map has_known_kind rows place row false (slice_get_within rows place row is) ∙ ap has_known_kind (get_or_from_slice_get rows place row row is)

module _ (shape : Shape) (region : ℕ) (image : List ℕ) (count place : ℕ) (below : place < count) (index : KeyIndex) (is : IsKeyIndex index)
    (buckets : bucket_count index.table ≡ shape.buckets) (are : IsOfRows (first_rows shape region image place) index) where
  -- the rows before this one were all good
  sound : IsSoundBefore shape.buckets (first_rows shape region image count) place
  sound = grind (arith, rows_taken)

  -- this row is damaged
  pub row_damaged : row_head (row_at shape region image place) ≡ None → IsFirstDamaged shape.buckets (first_rows shape region image count) place
  row_damaged head = record {
    there = subst (λ n. place < n) (sym (rows_count shape region image count)) below;
    before = sound;
    unknown = known_at _ place _ (rows_at shape region image count place below) ∙ head_says_none _ head;
  }

  -- this row's key finds no place
  pub row_crowded : (kind : Kind) (key : Key) → row_head (row_at shape region image place) ≡ Some (kind, key) → index_of_keys (bucket_count index.table) (index.keys.items ++ key.0 ∷ []) ≡ None
      → IsFirstCrowded shape.buckets (first_rows shape region image count) place
  row_crowded kind key head none =
      let row : StoredRow = row_at shape region image place in
      let says = head_says row kind key head in
      let more : take (place + 1) (first_rows shape region image count) ≡ first_rows shape region image place ++ row ∷ [] =
      rows_taken shape region image count _ (omega arith) ∙ rows_more shape region image place in
      record {
        there = subst (λ n. place < n) (sym (rows_count shape region image count)) below;
        before = sound;
        known = known_at _ place row (rows_at shape region image count place below) ∙ ap is_some says.0;
        crowded = cc (keys_push (first_rows shape region image place) row, says.1, are.keys_are);
      }

  -- this row's key was added
  pub row_added : (kind : Kind) (key : Key) (new : KeyIndex) → row_head (row_at shape region image place) ≡ Some (kind, key)
      → AddsKey kind key.0 index new → IsOfRows (first_rows shape region image (place + 1)) new
  row_added kind key new head adds = search (arith, rows_more, head_says, keys_push, known_push, puts_push)

-- ---- the store

-- the store has a log with the table of all its keys and the number of its puts
pub rebuilt_held : (log : LogState) (index : KeyIndex) → InBounds log → IsBucketCount log.shape.buckets → IsKeyIndex index
    → bucket_count index.table ≡ log.shape.buckets → length index.keys.items ≡ log.used → IsHeldStore (record { log = log; table = index.table; puts = index.puts })
rebuilt_held log index bounds count is buckets keys =
    let holds = index_law (bucket_count index.table) index.keys.items index.table (subst IsBucketCount (sym buckets) count) is.indexed in
    record {
      bounds = bounds;
      table = holds.table;
      count = buckets;
      below = λ slot place held. subst (λ n. place < n) keys (holds.no_other place (slot, held)).0;
      most = subst (λ n. index.puts ≤ n) keys is.most;
    }

module _ (content : Content) (log : LogState) (index : KeyIndex) (scanned : IsTrue content.honest → IsScanned content log)
    (is : IsKeyIndex index) (buckets : bucket_count index.table ≡ log.shape.buckets)
    (are : IsTrue content.honest → IsOfRows (first_rows log.shape log.region content.shown log.used) index) where
  -- the rows before the first closed commit byte are all rows
  pub rows_are : IsTrue content.honest → first_rows log.shape log.region content.shown log.used ≡ log_rows log.shape log.region content.shown
  unfolding log_rows
  rows_are honest = ap (first_rows log.shape log.region content.shown) (scanned honest).used

  -- and rebuilt
  pub rebuilt_is : IsTrue content.honest → IsRebuilt content (record { log = log; table = index.table; puts = index.puts })
  rebuilt_is honest = grind (arith, rows_are)

  -- and frozen if nothing is pending on the disk
  pub rebuilt_frozen : Rests content → IsFrozenStore content (record { log = log; table = index.table; puts = index.puts })
  rebuilt_frozen rests = grind (arith, left_at_rest, rows_are)

-- why a rebuild of a scanned log is refused
pub rebuild_refused : {F : Type 0} (content : Content) (log : LogState) (shape : Shape) (region : ℕ) (was_given : F → Type 0) (error : RebuildError F)
    → log.shape ≡ shape → log.region ≡ region → (IsTrue content.honest → IsScanned content log)
    → IsRefusedRebuild (λ row. IsTrue content.honest → IsFirstDamaged log.shape.buckets (first_rows log.shape log.region content.shown log.used) row)
    (IsTrue content.honest → (row : ℕ) × IsFirstCrowded log.shape.buckets (first_rows log.shape log.region content.shown log.used) row) was_given error
    → IsRefusedRebuild (λ row. IsTrue content.honest → IsFirstDamaged shape.buckets (log_rows shape region content.shown) row)
    (IsTrue content.honest → (row : ℕ) × IsFirstCrowded shape.buckets (log_rows shape region content.shown) row) was_given error
unfolding log_rows
rebuild_refused content log shape region was_given error shape_is region_is scanned refused = search arith
