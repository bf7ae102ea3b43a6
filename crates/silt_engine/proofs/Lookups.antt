-- What a walk through the stores finds.
use Rattle.silt_engine.proofs.Common.{◌≡◌, ◌≢◌, ◌<◌, ◌*◌, ℕ, true, false, cond, IsTrue, List, [], ◌∷◌, ◌++◌, suc, zero, inl, inr, length, filter, map, take, get_or, Option, Some, None, refl, ap}
use Rattle.silt_engine.proofs.Common.{sym, ◌∙◌, arith, append_assoc, All, bytes_eq, get, and_from, and_parts, cases_Bool, get_or-map, length-map, filter-append, list_any_at, get_or_from_slice_get}
use Rattle.silt_engine.proofs.Common.{slice_get_within, bytes_eq-Decides, Content, Shape, kind_byte, Kind, Put, Delete, rows_before, slot_row, hash_part, hash_rows, HashState, all_before, log_rows}
use Rattle.silt_engine.proofs.Common.{row_at, has_known_kind, StoredRow, all_rows, waiting_rows, all_are_settled_and_waiting, row_of_all, all_count, LogStoreState, FindsLast, HasNoRow, IsLastRow}
use Rattle.silt_engine.proofs.Common.{Found, Body, oldest_first, sorted_rows, entries_of, hash_findings, holds_key, map_of_rows, sorted_findings, map_law, finds_nothing, HasNoEntry, HasOnlyValue}
use Rattle.silt_engine.proofs.Common.{entries_law, Holder, Active, Frozen, Hashed, EngineState, Stands, current_map, shown_stores, hashed_rows, FindsFrozen, FindsHashed, FindsNewest, frozen_at}
use Rattle.silt_engine.proofs.Common.{hash_store_at, hash_rows_of, row_in, reverse, option_and_then, option_or, or_parts, reverse-append, find-append, kind_of, is_row_of, before_at, before_count}
use Rattle.silt_engine.proofs.Common.{before_taken, before_there, unsound_twice, newest_row, value_given, newest_law, IsOnlyRow, ShowsStores, value_found}
use Rattle.std.proofs.Common.{slice_get, rules}
use Rattle.std.specs.Option.{is_some}
use Rattle.silt_hash_store.proofs.Growing.{all_sound}
use Rattle.silt_image.specs.Stores.{stores_named}
use Rattle.silt_image.specs.Meaning.{rows_of}
use Rattle.silt_standing.proofs.Shown.{stands_shown}
use Rattle.silt_engine.proofs.Facts.{base_is, shown_sound}
use Rattle.silt_engine.proofs.Elsewhere.{scanned_all}
use mathlib.Core.List.{map-map}

-- ---- the last row of a key

-- in a list behind another
newest_append : (older newer : List StoredRow) (key : List ℕ) → newest_row (older ++ newer) key ≡ option_or (newest_row newer key) (newest_row older key)
newest_append older newer key = cc (reverse-append older newer, find-append (λ (row : StoredRow). bytes_eq row.key key) (reverse newer) (reverse older))

-- of one row
newest_one : (row : StoredRow) (key : List ℕ) → newest_row (row ∷ []) key ≡ cond (bytes_eq row.key key) (Some row) None
newest_one row key = refl

-- two keys that differ
pub other_key : (a b : List ℕ) → a ≢ b → bytes_eq a b ≡ false
other_key a b differ = search (arith, cases_Bool, bytes_eq-Decides)

-- if no row has the key
pub newest_none : (rows : List StoredRow) (key : List ℕ) → HasNoRow rows key → newest_row rows key ≡ None
newest_none [] key none = refl
newest_none (row ∷ rows) key none =
    let first : row.key ≢ key = none 0 (omega arith) in
    cc (newest_append (row ∷ []) rows key, newest_none rows key (λ place inside. none (suc place) (omega (arith, inside))), newest_one row key, other_key row.key key first)

-- if a row is the last one of the key
pub newest_last : (rows : List StoredRow) (key : List ℕ) (place : ℕ) (row : StoredRow) → IsLastRow rows key place row → newest_row rows key ≡ Some row
newest_last [] key place row is = absurd (let no : None ≡ Some row = is.there in cc)
newest_last (first ∷ rows) key zero row is =
    let same : first ≡ row = let e : Some first ≡ Some row = is.there in cc in
    let key_is : bytes_eq first.key key ≡ true = (bytes_eq-Decides first.key key).1 (ap (λ (r : StoredRow). r.key) same ∙ is.has_key) in
    cc (newest_append (first ∷ []) rows key, newest_none rows key (λ later inside. is.last (suc later) (omega arith) (omega (arith, inside))), newest_one first key)
newest_last (first ∷ rows) key (suc place) row is = cc (
  newest_append (first ∷ []) rows key,
  newest_last rows key place row (record { there = is.there; has_key = is.has_key; last = λ later past inside. is.last (suc later) (omega (arith, past)) (omega (arith, inside)) }),
)

-- if a row is the only one of the key
newest_only : (rows : List StoredRow) (key : List ℕ) (place : ℕ) (row : StoredRow) → IsOnlyRow rows key place row → newest_row rows key ≡ Some row
newest_only rows key place row is = search (arith, newest_last)

-- ---- the row of a key in a hash store

-- the newest row among those of known kinds, with one row more in front
newest_known_more : (row : StoredRow) (rows : List StoredRow) (key : List ℕ) → newest_row (filter has_known_kind (row ∷ rows)) key
    ≡ option_or (newest_row (filter has_known_kind rows) key) (newest_row (filter has_known_kind (row ∷ [])) key)
newest_known_more row rows key = cc (filter-append has_known_kind (row ∷ []) rows, newest_append (filter has_known_kind (row ∷ [])) (filter has_known_kind rows) key)

-- a row that is not one of the key
newest_known_other : (row : StoredRow) (key : List ℕ) → is_row_of key row ≡ false → newest_row (filter has_known_kind (row ∷ [])) key ≡ None
newest_known_other row key other = search (arith, newest_one)

-- a row of the key
newest_known_this : (row : StoredRow) (key : List ℕ) → is_row_of key row ≡ true → newest_row (filter has_known_kind (row ∷ [])) key ≡ Some row
newest_known_this row key is = search (arith, and_parts, newest_one)

-- if no row of a known kind has the key
pub newest_known_none : (rows : List StoredRow) (key : List ℕ) → holds_key key rows ≡ false → newest_row (filter has_known_kind rows) key ≡ None
newest_known_none [] key none = refl
newest_known_none (row ∷ rows) key none = search (arith, newest_known_none rows key, or_parts, newest_known_more, newest_known_other)

-- no row of a list has the key
all_other : (rows : List StoredRow) (key : List ℕ) → ((later : ℕ) (other : StoredRow) → slice_get rows later ≡ Some other → is_row_of key other ≡ false) → holds_key key rows ≡ false
all_other [] key none = refl
all_other (row ∷ rows) key none = rw (none 0 row refl, all_other rows key (λ later other there. none (suc later) other there)) refl

-- if a row of a known kind has the key, and no later one
pub newest_known : (rows : List StoredRow) (key : List ℕ) (place : ℕ) (row : StoredRow) → slice_get rows place ≡ Some row → is_row_of key row ≡ true
    → ((later : ℕ) (other : StoredRow) → place < later → slice_get rows later ≡ Some other → is_row_of key other ≡ false) → newest_row (filter has_known_kind rows) key ≡ Some row
newest_known [] key place row there is last = absurd (cc)
newest_known (first ∷ rows) key zero row there is last =
    let same : first ≡ row = cc in
    cc (
      newest_known_more first rows key,
      newest_known_none rows key (all_other rows key (λ later other at. last (suc later) other (omega arith) at)),
      newest_known_this first key (ap (is_row_of key) same ∙ is),
    )
newest_known (first ∷ rows) key (suc place) row there is last =
    cc (newest_known_more first rows key, newest_known rows key place row there is (λ later other past at. last (suc later) other (omega (arith, past)) at))

-- the kind byte of a kind is known
known_byte : (kind : Kind) (byte : ℕ) → kind_byte kind ≡ byte → is_some (kind_of byte) ≡ true
known_byte Put byte e = ap (λ n. is_some (kind_of n)) (sym e)
known_byte Delete byte e = ap (λ n. is_some (kind_of n)) (sym e)

module _ (shape : Shape) (region : ℕ) (image : List ℕ) (key : List ℕ) where
  -- a row of the region is in its slot
  hash_there : (slot : ℕ) (row : StoredRow) → slice_get (hash_rows shape region image) slot ≡ Some row → (slot < 4 * shape.buckets) × (row ≡ slot_row shape region image slot)
  hash_there slot row there = search (arith, all_before, slice_get_within, before_count, before_there)

  -- if nothing is found in a hash region, no slot after a row of the key has another
  later_lacks : hash_findings shape (hash_part shape image region) ≡ [] → (slot later : ℕ) (row other : StoredRow) → slice_get (hash_rows shape region image) slot ≡ Some row → is_row_of key row ≡ true
      → slot < later → slice_get (hash_rows shape region image) later ≡ Some other → is_row_of key other ≡ false
  later_lacks nothing slot later row other there is past at = elim (cases_Bool (is_row_of key other)) [
    | inr lacks ↦ lacks
    | inl has ↦
        let later_row : StoredRow = slot_row shape region image later in
        let stands = hash_there later other at in
        let before : List StoredRow = rows_before shape region image later in
        let parts = and_parts (has_known_kind other) (bytes_eq other.key key) has in
        let key_is : key ≡ later_row.key = cc ((bytes_eq-Decides other.key key).0 parts.1, stands.1) in
        let known : has_known_kind later_row ≡ true = ap has_known_kind (sym stands.1) ∙ parts.0 in
        let first : is_row_of key (get_or before slot row) ≡ true = search (arith, before_at, hash_there) in
        let held : holds_key key before ≡ true = search (arith, list_any_at, before_count) in
        let twice : holds_key later_row.key (take later (hash_rows shape region image)) ≡ true = search (arith, before_taken) in
        let unsound = unsound_twice shape _ later later_row known twice in
        search (arith, all_sound)
  ]

  -- so a row that is found is the newest row of the key
  pub newest_found : hash_findings shape (hash_part shape image region) ≡ [] → (found : Found) (row : StoredRow) → slice_get (hash_rows shape region image) found.place ≡ Some row → row.key ≡ key
      → kind_byte found.kind ≡ row.kind → newest_row (filter has_known_kind (hash_rows shape region image)) key ≡ Some row
  newest_found nothing found row there has_key kind =
      let is : is_row_of key row ≡ true = and_from _ _ (known_byte _ _ kind) ((bytes_eq-Decides row.key key).1 has_key) in
      newest_known _ key _ row there is (λ later other past at. later_lacks nothing _ later row other there is past at)

-- ---- through several stores, the newest first

pub walk_none : (stores : List (List StoredRow)) (key : List ℕ) → ((index : ℕ) → index < length stores → newest_row (get_or stores index []) key ≡ None) → newest_row (oldest_first stores) key ≡ None
walk_none [] key none = refl
walk_none (newest ∷ older) key none = cc (newest_append (oldest_first older) newest key, none 0 (omega arith), walk_none older key (λ index inside. none (suc index) (omega (arith, inside))))

pub walk_some : (stores : List (List StoredRow)) (key : List ℕ) (number : ℕ) (row : StoredRow) → number < length stores
    → ((index : ℕ) → index < number → newest_row (get_or stores index []) key ≡ None) → newest_row (get_or stores number []) key ≡ Some row → newest_row (oldest_first stores) key ≡ Some row
walk_some (newest ∷ older) key (suc number) row inside none is =
    cc (newest_append (oldest_first older) newest key, none 0 (omega arith), walk_some older key number row (omega (arith, inside)) (λ index below. none (suc index) (omega (arith, below))) is)
walk_some stores key number row inside none is = search (rules, arith, newest_append)

-- ---- all rows, store by store

-- the rows of a log in memory
abbrev pub rows_in : Content → LogStoreState → List StoredRow
rows_in content store = all_rows content store.log

-- the rows of a hash store that are puts and deletes
abbrev pub known_in : Content → HashState → List StoredRow
known_in content store = filter has_known_kind (hash_rows_of content store)

-- the rows behind those of the logs: the entries, and the rows of the hash stores
abbrev pub rows_behind : Content → EngineState → List StoredRow
rows_behind content s = entries_of content s.sorted ++ hashed_rows content s

-- two functions that agree on each element
map_agree : {X Y : Type 0} (f g : X → Y) (xs : List X) → All (λ x. f x ≡ g x) xs → map f xs ≡ map g xs
map_agree f g [] same = refl
map_agree f g (x ∷ xs) same =
    let first : f x ≡ g x = same 0 x (omega arith) in
    let others : map f xs ≡ map g xs = map_agree f g xs (λ k d inside. same (suc k) d (omega (arith, inside))) in
    cc

-- and all their rows
pub named_rows : (shape : Shape) (body : Body) (image : List ℕ) → rows_of (stores_named shape body image)
    ≡ sorted_rows shape body.sorted body.sorted_count image ++ oldest_first (map (λ region. filter has_known_kind (hash_rows shape region image)) body.hashed)
    ++ (oldest_first (map (λ region. log_rows shape region image) body.frozen) ++ log_rows shape body.active image)
unfolding rows_of stores_named
named_rows shape body image = search (arith, map-map)

module _ (content : Content) (s : EngineState) (shows : ShowsStores content s) (honest : IsTrue content.honest) where
  -- the rows of the frozen logs
  frozen_rows : map (λ region. log_rows s.manifest.shape region content.shown) s.manifest.current.frozen ≡ map (rows_in content) s.frozen
  frozen_rows = search (arith, map-map, map_agree, scanned_all)

  -- and those of the hash stores
  hash_store_rows : map (λ region. filter has_known_kind (hash_rows s.manifest.shape region content.shown)) s.manifest.current.hashed ≡ map (known_in content) s.hashes
  hash_store_rows = search (arith, map-map, map_agree)

  -- the entries
  entries_shown : sorted_rows s.manifest.shape s.manifest.current.sorted s.manifest.current.sorted_count content.shown ≡ entries_of content s.sorted
  entries_shown = ap (entries_of content) (sym shows.whole.sorted)

  -- the rows of the active log
  active_shown : log_rows s.manifest.shape s.manifest.current.active content.shown ≡ log_rows s.active.log.shape s.active.log.region content.shown
  active_shown = cc (shows.whole.has_shape, shows.whole.active_region)

  -- all rows, the oldest first: the entries, those of the hash stores, of the frozen logs and of the active one
  pub rows_by_log : rows_of (shown_stores content s) ++ waiting_rows content s.active.log ≡ rows_behind content s ++ oldest_first (map (rows_in content) s.frozen) ++ all_rows content s.active.log
  rows_by_log = search (arith, named_rows, entries_shown, hash_store_rows, frozen_rows, active_shown, append_assoc, all_are_settled_and_waiting)

  -- the map that lookups read
  pub current_is : current_map content s ≡ map_of_rows (rows_behind content s ++ oldest_first (map (rows_in content) s.frozen) ++ all_rows content s.active.log)
  current_is = cc (base_is content s, map_law (rows_of (shown_stores content s)) (waiting_rows content s.active.log), rows_by_log)

module _ (content : Content) (s : EngineState) (stands : Stands content s) (honest : IsTrue content.honest) where
  -- nothing is found in the entries
  pub entries_sound : sorted_findings (entries_of content s.sorted) ≡ []
  unfolding stores_named
  entries_sound =
      rw (entries_shown content s (stands_shown content s stands) honest) at (finds_nothing
      (shown_stores content s) (shown_sound content s stands honest)).entries

  -- what the map has for a key
  current_get : (key : List ℕ) → get (current_map content s) key
      ≡ option_and_then value_given (option_or (newest_row (all_rows content s.active.log) key)
      (option_or (newest_row (oldest_first (map (rows_in content) s.frozen)) key) (newest_row (rows_behind content s) key)))
  current_get key = search (arith, current_is, stands_shown, newest_law, newest_append)

  -- ---- a row that is found

  -- its value, in its store
  row_value : (store : LogStoreState) (key : List ℕ) (place : ℕ) (row : StoredRow) → IsLastRow (all_rows content store.log) key place row
      → row ≡ row_at store.log.shape store.log.region content.shown place
  row_value store key place row is =
      sym (get_or_from_slice_get (all_rows content store.log) place row row is.there) ∙ row_of_all content store.log place row
      (omega (arith, slice_get_within (all_rows content store.log) place row is.there, all_count content store.log))

  its_value : (holder : Holder) (found : Found) (row : StoredRow) → kind_byte found.kind ≡ row.kind → row ≡ row_in content s holder found.place → value_given row ≡ value_found content s holder found
  its_value holder found row kind is =
      let go : (k : Kind) → found.kind ≡ k → value_given row ≡ value_found content s holder found = search arith in
      go found.kind refl

  -- the row is in the active log
  pub found_active : (key : List ℕ) (found : Found) → FindsLast (all_rows content s.active.log) key (Some found) → get (current_map content s) key ≡ value_found content s Active found
  found_active key found (row, is, kind) =
      cc (current_get key, newest_last (all_rows content s.active.log) key found.place row is, its_value Active found row kind (row_value s.active key found.place row is))

  -- the active log has none
  past_active : (key : List ℕ) → HasNoRow (all_rows content s.active.log) key
      → get (current_map content s) key ≡ option_and_then value_given (option_or (newest_row (oldest_first (map (rows_in content) s.frozen)) key) (newest_row (rows_behind content s) key))
  past_active key none = cc (current_get key, newest_none (all_rows content s.active.log) key none)

  -- the rows of a frozen log, by its number
  rows_at : (index : ℕ) → index < length s.frozen → get_or (map (rows_in content) s.frozen) index [] ≡ all_rows content (frozen_at s index).log
  rows_at index inside = get_or-map (rows_in content) s.frozen index s.active [] inside

  -- one that has no row of a key
  frozen_lacks : (key : List ℕ) (index : ℕ) → index < length s.frozen → HasNoRow (all_rows content (frozen_at s index).log) key
      → newest_row (get_or (map (rows_in content) s.frozen) index []) key ≡ None
  frozen_lacks key index inside none = cc (rows_at index inside, newest_none (all_rows content (frozen_at s index).log) key none)

  -- the row is in a frozen log
  pub found_frozen : (key : List ℕ) (number : ℕ) (found : Found) → number < length s.frozen → HasNoRow (all_rows content s.active.log) key → FindsFrozen content s key (Some (number, found))
      → get (current_map content s) key ≡ value_found content s (Frozen number) found
  found_frozen key number found inside none (before, (row, is, kind)) =
      cc (
        past_active key none,
        walk_some (map (rows_in content) s.frozen) key number row (omega (arith, inside, length-map s.frozen (rows_in content))) (λ index below. frozen_lacks key
            index (omega (arith, below, inside)) (before index below))
            (cc (rows_at number inside, newest_last (all_rows content (frozen_at s number).log) key found.place row is)),
        its_value (Frozen number) found row kind (row_value (frozen_at s number) key found.place row is),
      )

  -- no log has one
  past_frozen : (key : List ℕ) → HasNoRow (all_rows content s.active.log) key → FindsFrozen content s key None
      → get (current_map content s) key ≡ option_and_then value_given (option_or (newest_row (hashed_rows content s) key) (newest_row (entries_of content s.sorted) key))
  past_frozen key none frozen = cc (
    past_active key none,
    walk_none (map (rows_in content) s.frozen) key (λ index inside. let here : index < length s.frozen =
        omega (arith, inside, length-map s.frozen (rows_in content)) in frozen_lacks key index here (frozen index here)),
    newest_append (entries_of content s.sorted) (hashed_rows content s) key,
  )

  -- the rows of a hash store, by its number
  known_at : (index : ℕ) → index < length s.hashes → get_or (map (known_in content) s.hashes) index [] ≡ known_in content (hash_store_at s index)
  known_at index inside = get_or-map (known_in content) s.hashes index (record { shape = s.manifest.shape; region = 0; tags = []; puts = 0; digest = [] }) [] inside

  -- one that has no row of a key
  hash_lacks : (key : List ℕ) (index : ℕ) → index < length s.hashes → holds_key key (hash_rows_of content (hash_store_at s index)) ≡ false
      → newest_row (get_or (map (known_in content) s.hashes) index []) key ≡ None
  hash_lacks key index inside none = cc (known_at index inside, newest_known_none (hash_rows_of content (hash_store_at s index)) key none)

  -- the row is in a hash store
  pub found_hashed : (key : List ℕ) (number : ℕ) (found : Found) → number < length s.hashes → HasNoRow (all_rows content s.active.log) key → FindsFrozen content s key None
      → FindsHashed content s key (Some (number, found)) → get (current_map content s) key ≡ value_found content s (Hashed number) found
  found_hashed key number found inside none frozen (before, (row, there, has_key, kind)) =
      let store : HashState = hash_store_at s number in
      let stands_there = stands.hashed number (record { shape = s.manifest.shape; region = 0; tags = []; puts = 0; digest = [] }) inside in
      past_frozen key none frozen
      ∙ ap (λ (o : Option StoredRow). option_and_then value_given (option_or o (newest_row (entries_of content s.sorted) key)))
      (walk_some (map (known_in content) s.hashes) key number row (omega (arith, inside, length-map s.hashes (known_in content)))
      (λ index below. hash_lacks key index (omega (arith, below, inside)) (before index below))
      (cc (known_at number inside, newest_found store.shape store.region content.shown key (stands_there.sound honest) found row there has_key kind)))
      ∙ its_value (Hashed number) found row kind (hash_there store.shape store.region content.shown key found.place row there).1

  -- no hash store has one
  pub past_hashed : (key : List ℕ) → HasNoRow (all_rows content s.active.log) key → FindsFrozen content s key None → FindsHashed content s key None
      → get (current_map content s) key ≡ option_and_then value_given (newest_row (entries_of content s.sorted) key)
  past_hashed key none frozen hashed = cc (
    past_frozen key none frozen,
    walk_none (map (known_in content) s.hashes) key (λ index inside. let here : index < length s.hashes =
        omega (arith, inside, length-map s.hashes (known_in content)) in hash_lacks key index here (hashed index here)),
  )

  -- the row is an entry, and this is its value
  pub found_value : (key value : List ℕ) → FindsNewest content s key None → HasOnlyValue (entries_of content s.sorted) key value → get (current_map content s) key ≡ Some value
  found_value key value newest (place, row, is, has) =
      let one : row.kind ≡ 1 = (entries_law s.sorted.shape s.sorted.region s.sorted.count content.shown).puts place row is.there in
      cc (newest_only (entries_of content s.sorted) key place row is)

  -- no store has one
  pub found_nowhere : (key : List ℕ) → FindsNewest content s key None → HasNoEntry (entries_of content s.sorted) key → get (current_map content s) key ≡ None
  found_nowhere key newest lacks = cc (newest_none (entries_of content s.sorted) key lacks)
