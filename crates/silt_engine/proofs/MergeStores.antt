-- The rows that a merge takes of the stores that a body names, and the stores with its entries.
use Rattle.silt_engine.proofs.Common.{◌≡◌, ℕ, zero, suc, ◌+◌, ◌-◌, IsTrue, [], ◌∷◌, ◌++◌, List, length, map, take, drop, refl, ap, sym, ◌∙◌, arith, All, length-map, take-map, Content, Shape}
use Rattle.silt_engine.proofs.Common.{StoredRow, entry_row, put_count, HashState, IsHashStore, IsSound, known_rows, oldest_first, Part, Stores, hash_part, SortedState, count_law, Body, taken_rows}
use Rattle.silt_engine.proofs.Common.{IsMergeOf, regions_of, oldest_stores, merge_sources, merged_body, puts_in, hash_region_of, sorted_named, append_assoc, flat_map-append, map-append, charge_of}
use Rattle.silt_engine.proofs.Common.{map_of_rows, part_rows, map_law, finds_nothing, is_sound, nothing_first, sum_by-cons, drop-map, MergesLaw, rows_of_hashes, entry_bytes, entry_more}
use Rattle.silt_image.specs.Meaning.{with_log_rows, rows_of}
use Rattle.silt_image.specs.Stores.{stores_named}
use Rattle.silt_sorted_store.specs.State.{sorted_rows}
use Rattle.silt_engine.specs.Replacements.{with_merged}
use Rattle.silt_merge.specs.Rows.{sources}
use Rattle.std.proofs.Common.{append-nil}

-- the rows of older stores come first
older_first : (newer older : List (List StoredRow)) → oldest_first (newer ++ older) ≡ oldest_first older ++ oldest_first newer
older_first [] older = sym (append-nil (oldest_first older))
older_first (rows ∷ newer) older = cc (older_first newer older, append_assoc (oldest_first older) (oldest_first newer) rows)

module _ (s : Stores) (body : Body) (newer taken : List Part) (entries : List StoredRow) (split : s.hashes ≡ newer ++ taken) (is : IsMergeOf (taken_rows taken s) entries) where
  abbrev new : Stores
  new = with_merged body newer entries s

  -- the rows that are merged
  abbrev rows : List StoredRow
  rows = taken_rows taken s

  -- those of the newer hash stores and of the logs
  abbrev rest : List StoredRow
  rest = oldest_first (map known_rows newer) ++ oldest_first (map part_rows s.logs)

  -- those that are merged come first
  pub rows_old : rows_of s ≡ rows ++ rest
  unfolding rows_of
  rows_old = search (arith, map-append, older_first, append_assoc)

  -- and then the entries do
  rows_new : rows_of new ≡ entries ++ rest
  unfolding rows_of with_merged
  rows_new = append_assoc entries (oldest_first (map known_rows newer)) (oldest_first (map part_rows s.logs))

  -- they make the same map
  same_map : map_of_rows (rows_of new) ≡ map_of_rows (rows_of s)
  same_map = cc (rows_new, map_law entries rest, is.same_map, map_law rows rest, rows_old)

  -- also with rows behind
  same_behind : (more : List StoredRow) → map_of_rows (rows_of new ++ more) ≡ map_of_rows (rows_of s ++ more)
  same_behind more = cc (map_law (rows_of new) more, same_map, map_law (rows_of s) more)

  -- the entries count for the puts of the rows
  charge_moves : charge_of new + put_count rows ≡ charge_of s + length entries
  charge_moves = omega (arith, ap put_count rows_old, ap put_count rows_new, count_law rows rest, count_law entries rest, is.counted)

  -- and nothing is found
  still_sound : IsSound s → IsSound new
  unfolding with_merged
  still_sound sound = search (arith, finds_nothing, flat_map-append, is_sound, nothing_first, charge_moves)

-- a merge of the entries and the oldest hash stores may replace them as the entries
pub merges : MergesLaw
merges s body newer taken entries split sound is = record {
  map = same_map s body newer taken _ split is;
  behind = same_behind s body newer taken _ split is;
  sound = still_sound s body newer taken _ split is sound;
  charge = charge_moves s body newer taken _ split is;
}

-- ---- what a merge takes of the stores of an image

-- the oldest of the hash regions that a body names are those of the oldest hash stores
pub taken_named : (shape : Shape) (image ids : List ℕ) (stores : List HashState) (count : ℕ) → map hash_region_of stores ≡ ids
    → drop (length (map (hash_part shape image) ids) - count) (map (hash_part shape image) ids) ≡ map (hash_part shape image) (regions_of (oldest_stores count stores))
taken_named shape image ids stores count are = search (arith, length-map, drop-map)

-- what a merge takes of the stores that a body names is what it takes of the stores in memory
pub sources_named : (shape : Shape) (body : Body) (stores : List HashState) (sorted : SortedState) (count : ℕ) (image : List ℕ) → sorted ≡ sorted_named shape body
    → map hash_region_of stores ≡ body.hashed → merge_sources count (stores_named shape body image) ≡ sources image (oldest_stores count stores) sorted
unfolding stores_named sources
sources_named shape body stores sorted count image is are = cc (taken_named shape image body.hashed stores count are)

-- other rows of a log change nothing of that
pub sources_with : (region count : ℕ) (rows : List StoredRow) (t : Stores) → merge_sources count (with_log_rows region rows t) ≡ merge_sources count t
unfolding with_log_rows
sources_with region count more t = refl

-- ---- the stores with a new sorted store

-- the next body names the newer hash stores and the new entries
pub merged_named : (shape : Shape) (body : Body) (count region written : ℕ) (image : List ℕ) → stores_named shape (merged_body body count region written) image
    ≡ with_merged (merged_body body count region written) (take (length (stores_named shape body image).hashes - count) (stores_named shape body image).hashes)
    (sorted_rows shape region written image) (stores_named shape body image)
unfolding stores_named with_merged
merged_named shape body count region written image = search (arith, take-map, length-map)

-- if the merge may replace what it took, it may do so with other rows of a log
pub sound_with : (body : Body) (newer taken : List Part) (entries rows : List StoredRow) (region : ℕ) (t : Stores) → t.hashes ≡ newer ++ taken → IsMergeOf (taken_rows taken t) entries
    → IsSound (with_log_rows region rows t) → IsSound (with_log_rows region rows (with_merged body newer entries t))
unfolding with_log_rows with_merged
sound_with body newer taken entries rows region t split is sound = (merges (with_log_rows region rows t) body newer taken entries split sound is).sound

-- ---- puts

-- entries are puts
pub entries_puts : (shape : Shape) (region count : ℕ) (image : List ℕ) → put_count (sorted_rows shape region count image) ≡ count
unfolding sorted_rows
entries_puts shape region zero image = refl
entries_puts shape region (suc count) image =
    let next : suc count ≡ count + 1 = omega arith in
    let one : put_count (entry_row (entry_bytes shape region image count) ∷ []) ≡ 1 = refl in
    let before = entries_puts shape region count image in
    let both = count_law (sorted_rows shape region count image) (entry_row (entry_bytes shape region image count) ∷ []) in
    let more : put_count (sorted_rows shape region (suc count) image) ≡ put_count (sorted_rows shape region count image ++ entry_row (entry_bytes shape region image count) ∷ []) =
    ap (λ (n : ℕ). put_count (sorted_rows shape region n image)) next ∙ ap put_count (entry_more shape region count image) in
    omega (arith, one, before, both, more)

-- the puts of hash stores are counted
hashes_puts : (content : Content) (shape : Shape) (stores : List HashState) → IsTrue content.honest → All (λ store. store.shape ≡ shape) stores → All (IsHashStore content) stores
    → put_count (rows_of_hashes shape content.shown (regions_of stores)) ≡ puts_in stores
hashes_puts content shape [] honest shapes stand = refl
hashes_puts content shape (store ∷ stores) honest shapes stand =
    let rest = hashes_puts _ shape stores honest (λ k blank below. shapes (suc k) blank (omega arith)) (λ k blank below. stand (suc k) blank (omega arith)) in
    let its : store.puts ≡ put_count (known_rows (hash_part shape content.shown store.region)) = cc ((stand 0 store (omega arith)).counted honest, shapes 0 store (omega arith)) in
    search (arith, count_law, sum_by-cons)

-- and so are those of all that a merge takes
pub sources_puts : (content : Content) (stores : List HashState) (sorted : SortedState) → IsTrue content.honest → All (λ store. store.shape ≡ sorted.shape) stores → All (IsHashStore content) stores
    → put_count (sources content.shown stores sorted) ≡ sorted.count + puts_in stores
unfolding sources
sources_puts content stores sorted honest shapes stand = search (arith, entries_puts, hashes_puts, count_law)
