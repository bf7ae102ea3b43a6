-- What waits after one slot more.
use Rattle.silt_merge.proofs.Common.{◌≡◌, ℕ, zero, suc, ◌+◌, ◌*◌, ◌<◌, ◌≤◌, true, false, List, [], ◌∷◌, ◌++◌, filter, flat_map, length, map, take, get_or, Option, Some, None, option_map, refl}
use Rattle.silt_merge.proofs.Common.{sym, ap, arith, bytes_eq, option_or, cond-true, cond-false, take_more, Shape, Row, IsRowAt, slot_row, hash_part, all_before, newest_row, hash_findings}
use Rattle.silt_merge.proofs.Common.{StoredRow, Gathers, slot_after, source_at, Key, source_row, rows_of_hashes, Source, append_assoc, append-nil, map-append, take_all, filter-append, hash_rows}
use Rattle.silt_merge.proofs.Common.{before_more, before_taken, sound_parts, holds_key, has_known_kind, own_source}
use Rattle.silt_hash_store.specs.Slots.{rows_before}
use Rattle.silt_hash_store.proofs.Growing.{all_sound}
use Rattle.silt_log.specs.Parts.{oldest_first}
use Rattle.silt_event.proofs.Findings.{nothing_first, nothing_second}
use Rattle.silt_merge.specs.Merging.{gathered_rows}
use Rattle.silt_merge.proofs.Newest.{key_is, newest_append, newest_cons, own}

-- ---- rows

-- one more row, with newer rows behind it
row_more : (older newer : List StoredRow) (row : StoredRow) (key : List ℕ) → (bytes_eq row.key key ≡ true → newest_row older key ≡ None)
    → newest_row ((older ++ row ∷ []) ++ newer) key ≡ option_or (newest_row (older ++ newer) key) (own row key)
row_more older newer row key alone = search (arith, newest_append)

-- no row of a known kind has a key that no row of a known kind has
none_known : (key : List ℕ) (rows : List StoredRow) → holds_key key rows ≡ false → newest_row (filter has_known_kind rows) key ≡ None
none_known key [] none = refl
none_known key (row ∷ rows) none = search (arith, none_known key rows, newest_cons)

-- a list with one row more at its end, as far as rows are of known kinds
known_more : (rows : List StoredRow) (row : StoredRow) → has_known_kind row ≡ true → filter has_known_kind (rows ++ row ∷ []) ≡ filter has_known_kind rows ++ row ∷ []
known_more rows row known = cc (filter-append has_known_kind rows (row ∷ []), cond-true _ _ _ known)

unknown_more : (rows : List StoredRow) (row : StoredRow) → has_known_kind row ≡ false → filter has_known_kind (rows ++ row ∷ []) ≡ filter has_known_kind rows
unknown_more rows row unknown = cc (filter-append has_known_kind rows (row ∷ []), cond-false _ _ _ unknown, append-nil (filter has_known_kind rows))

-- ---- stores

-- a store behind others is older than they are
oldest_behind : (stores : List (List StoredRow)) (last : List StoredRow) → oldest_first (stores ++ last ∷ []) ≡ last ++ oldest_first stores
oldest_behind [] last = sym (append-nil last)
oldest_behind (newest ∷ older) last = search (arith, oldest_behind older last, append_assoc)

-- nothing is found in each of the stores
pub each_sound : (s : Shape) (image regions : List ℕ) (store : ℕ) → flat_map (hash_findings s) (map (hash_part s image) regions) ≡ [] → store < length regions
    → hash_findings s (hash_part s image (get_or regions store 0)) ≡ []
each_sound s image [] store none below = absurd (omega arith)
each_sound s image (region ∷ regions) zero none below = nothing_first _ _ none
each_sound s image (region ∷ regions) (suc store) none below =
    each_sound s image regions store (nothing_second (hash_findings s (hash_part s image region)) (flat_map (hash_findings s) (map (hash_part s image) regions)) none) (omega arith)

module _ (s : Shape) (image regions : List ℕ) (store : ℕ) where
  abbrev region : ℕ
  region = get_or regions store 0

  -- one slot more
  slot_gathered : (slot : ℕ) → gathered_rows s image regions store (slot + 1) ≡ filter has_known_kind
      (rows_before s region image slot ++ slot_row s region image slot ∷ []) ++ rows_of_hashes s image (take store regions)
  unfolding gathered_rows
  slot_gathered slot = ap (λ l. filter has_known_kind l ++ rows_of_hashes s image (take store regions)) (before_more s region image slot)

  -- all slots of a store
  store_gathered : store < length regions → gathered_rows s image regions store (4 * s.buckets) ≡ rows_of_hashes s image (take (store + 1) regions)
  unfolding gathered_rows
  store_gathered below =
      let more : take (store + 1) regions ≡ take store regions ++ region ∷ [] = take_more regions store 0 below in
      search (arith, map-append, all_before, oldest_behind)

-- no slot of a store
pub none_gathered : (s : Shape) (image regions : List ℕ) (store : ℕ) → gathered_rows s image regions store 0 ≡ rows_of_hashes s image (take store regions)
unfolding gathered_rows rows_before
none_gathered s image regions store = refl

-- all stores
pub all_gathered : (s : Shape) (image regions : List ℕ) (store slot : ℕ) → length regions ≤ store → slot ≡ 0 → gathered_rows s image regions store slot ≡ rows_of_hashes s image regions
all_gathered s image regions store slot past none = cc (none_gathered s image regions store, take_all store regions past)

-- ---- a slot that is gathered

-- one source or another, as rows
map_or : {A B : Type 0} (f : A → B) (o p : Option A) → option_map f (option_or o p) ≡ option_or (option_map f o) (option_map f p)
map_or f None p = refl
map_or f (Some x) p = refl

module _ (s : Shape) (image regions : List ℕ) (store slot : ℕ) (below : store < length regions) (inside : slot < 4 * s.buckets)
    (none : flat_map (hash_findings s) (map (hash_part s image) regions) ≡ []) where
  abbrev shown : StoredRow
  shown = slot_row s (get_or regions store 0) image slot

  -- a source is the row in its slot
  own_row : (row : Row) (key : List ℕ) → IsRowAt shown slot (Some row) → option_map (source_row s image regions) (own_source store slot row key) ≡ own shown key
  own_row row key is = search arith

  -- no earlier slot of the store has the key of a row of a known kind
  alone : (key : List ℕ) → has_known_kind shown ≡ true → bytes_eq shown.key key ≡ true → newest_row (filter has_known_kind (rows_before s (get_or regions store 0) image slot)) key ≡ None
  alone key known same =
      let region : ℕ = get_or regions store 0 in
      let sound = all_sound s region image (each_sound s image regions store none below) slot inside in
      let parts = sound_parts s (hash_rows s region image) slot shown known sound in
      none_known key (rows_before s region image slot) (cc (key_is shown.key key same, before_taken s region image slot (omega arith), parts.1))

  -- the newest row of a key with one more slot, if the slot has a row of a known kind
  row_gathered : (row : Row) (key : List ℕ) → IsRowAt shown slot (Some row)
      → newest_row (gathered_rows s image regions store (slot + 1)) key ≡ option_or (newest_row (gathered_rows s image regions store slot) key) (own shown key)
  unfolding gathered_rows
  row_gathered row key is = search (arith, slot_gathered, known_more, row_more, alone)

  -- and if it has none
  none_there : (key : List ℕ) → IsRowAt shown slot None → newest_row (gathered_rows s image regions store (slot + 1)) key ≡ newest_row (gathered_rows s image regions store slot) key
  unfolding gathered_rows
  none_there key unknown = search (arith, slot_gathered, unknown_more)

-- the rows that are gathered before the next slot
pub next_gathered : (s : Shape) (image regions : List ℕ) (store slot : ℕ) → store < length regions
    → gathered_rows s image regions (slot_after store slot (4 * s.buckets)).0 (slot_after store slot (4 * s.buckets)).1 ≡ gathered_rows s image regions store (slot + 1)
next_gathered s image regions store slot below = search (arith, none_gathered, store_gathered)

-- the rows that wait after a slot was gathered are the newest of those that are gathered
pub waits_kept : (s : Shape) (image regions : List ℕ) (store slot : ℕ) (row : Option Row) (before after : List (Key × Source)) → store < length regions → slot < 4 * s.buckets
    → flat_map (hash_findings s) (map (hash_part s image) regions) ≡ [] → IsRowAt (slot_row s (get_or regions store 0) image slot) slot row → Gathers store slot row before after
    → ((key : List ℕ) → option_map (source_row s image regions) (source_at before key) ≡ newest_row (gathered_rows s image regions store slot) key)
    → (key : List ℕ) → option_map (source_row s image regions) (source_at after key) ≡ newest_row (gathered_rows s image regions store (slot + 1)) key
waits_kept s image regions store slot row before after below inside none is keeps waits key = search (arith, none_there, map_or, own_row, row_gathered)
