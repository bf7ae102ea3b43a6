-- The stores of a body that names a hash store in place of the oldest log.
use Rattle.silt_engine.proofs.Common.{◌≡◌, ◌≢◌, ◌<◌, ℕ, ◌+◌, ◌-◌, suc, List, [], ◌∷◌, ◌++◌, length, map, take, get_or, ap, sym, ◌∙◌, arith, ne_eqb, get_or-map, length-map, map-append, take_all}
use Rattle.silt_engine.proofs.Common.{take_more, take-map, Shape, log_rows, StoredRow, Body, Part, log_part, part_rows, Stores, hash_part, hash_rows, sorted_rows, HasOldest, converted_body}
use Rattle.silt_engine.proofs.Common.{append_assoc, take-append_seam, flat_map-append, Slots, Map, map_after, IsSound, charge_of, command_of, map_of_rows, known_rows, oldest_first, put_count}
use Rattle.silt_engine.proofs.Common.{count_law, map_after-append, map_law, finds_nothing, is_sound, nothing_first, converted_rows, IsTableOf, converted_charge, keeps_rows, ConvertsLaw}
use Rattle.silt_engine.proofs.Common.{nothing_both}
use Rattle.silt_image.specs.Stores.{stores_named}
use Rattle.silt_image.specs.Meaning.{with_log_rows, rows_of}
use Rattle.silt_engine.specs.Replacements.{with_converted}
use Rattle.std.proofs.Common.{append-nil, length-append}
use Rattle.silt_conversion.proofs.Answering.{converted_map}
use Rattle.silt_conversion.proofs.Soundness.{converted_sound}

-- ---- lists without their last element

-- what a list without its last element is made into
all_but_last : {X Y : Type 0} (f : X → Y) (first : X) (others : List X) → 0 < length others
    → take (length (map f (first ∷ others)) - 1) (map f (first ∷ others)) ≡ map f (first ∷ take (length others - 1) others)
all_but_last f first others some = search (arith, length-map, take-map)

-- a list is its first elements and the last one
with_last : {X : Type 0} (xs : List X) (d : X) → 0 < length xs → xs ≡ take (length xs - 1) xs ++ get_or xs (length xs - 1) d ∷ []
with_last xs d some = search (arith, take_all, take_more)

-- behind another element
with_last_behind : {X : Type 0} (first : X) (xs : List X) (d : X) → 0 < length xs → first ∷ xs ≡ (first ∷ take (length xs - 1) xs) ++ get_or xs (length xs - 1) d ∷ []
with_last_behind first xs d some = ap (λ (l : List _). first ∷ l) (with_last xs d some)

-- ---- the stores

-- the next body names the hash store in front of the others, and no longer the oldest log
pub converted_named : (shape : Shape) (body : Body) (region : ℕ) (rows : List StoredRow) (image : List ℕ) → 0 < length body.frozen → hash_rows shape region image ≡ rows
    → stores_named shape (converted_body body region) image ≡ with_converted (converted_body body region) (record { region = region; rows = rows }) (stores_named shape body image)
unfolding stores_named with_converted
converted_named shape body region rows image some are =
    let next : Body = converted_body body region in
    let hashes : List Part = map (hash_part shape image) body.hashed in
    let entries : List StoredRow = sorted_rows shape body.sorted body.sorted_count image in
    let logs : List Part = map (log_part shape image) (body.active ∷ take (length body.frozen - 1) body.frozen) in
    cc (all_but_last (log_part shape image) body.active body.frozen some)

-- other rows of a log, before and after
pub rows_converted : (region : ℕ) (rows : List StoredRow) (body : Body) (part : Part) (t : Stores)
    → with_log_rows region rows (with_converted body part t) ≡ with_converted body part (with_log_rows region rows t)
unfolding with_converted with_log_rows
rows_converted region rows body part t = search (arith, take-map, length-map)

-- the oldest log of the stores that a body names
pub oldest_named : (shape : Shape) (body : Body) (d : ℕ) (image : List ℕ) → 0 < length body.frozen
    → HasOldest (log_rows shape (get_or body.frozen (length body.frozen - 1) d) image) (stores_named shape body image)
unfolding stores_named
oldest_named shape body d image some = record {
  newer = map (log_part shape image) (body.active ∷ take (length body.frozen - 1) body.frozen);
  region = get_or body.frozen (length body.frozen - 1) d;
  logs =
      ap (map (log_part shape image)) (with_last_behind _ _ d some)
      ∙ map-append (log_part shape image) (body.active ∷ take (length body.frozen - 1) body.frozen) (get_or body.frozen (length body.frozen - 1) d ∷ []);
}

-- it stays the oldest log with other rows of another one
pub oldest_with : (rows : List StoredRow) (t : Stores) (has : HasOldest rows t) (region : ℕ) (other : List StoredRow) → has.region ≢ region → HasOldest rows (with_log_rows region other t)
unfolding with_log_rows
oldest_with rows t has region other differ = search (arith, keeps_rows, ne_eqb, map-append)

-- the same, of the stores that a body names
pub oldest_named_with : (shape : Shape) (body : Body) (d : ℕ) (image : List ℕ) (region : ℕ) (other : List StoredRow) → 0 < length body.frozen → get_or body.frozen (length body.frozen - 1) d ≢ region
    → HasOldest (log_rows shape (get_or body.frozen (length body.frozen - 1) d) image) (with_log_rows region other (stores_named shape body image))
unfolding stores_named oldest_named
oldest_named_with shape body d image region other some differ = oldest_with _ _ (oldest_named shape body d image some) region other differ

-- images with the same stores have the same rows in each frozen log
pub rows_named : (shape : Shape) (body : Body) (k d : ℕ) (before after : List ℕ) → stores_named shape body after ≡ stores_named shape body before → k < length body.frozen
    → log_rows shape (get_or body.frozen k d) after ≡ log_rows shape (get_or body.frozen k d) before
unfolding stores_named
rows_named shape body k d before after same inside =
    let none : Part = record { region = 0; rows = [] } in
    ap part_rows (sym (get_or-map (log_part shape after) body.frozen k d none inside))
    ∙ ap (λ (t : Stores). part_rows (get_or t.logs (suc k) none)) same
    ∙ ap part_rows (get_or-map (log_part shape before) body.frozen k d none inside)

-- ---- the oldest log replaced

-- the rows of the oldest store come first
oldest_last : (newer : List (List StoredRow)) (oldest : List StoredRow) → oldest_first (newer ++ oldest ∷ []) ≡ oldest ++ oldest_first newer
oldest_last [] oldest = sym (append-nil oldest)
oldest_last (rows ∷ newer) oldest = cc (oldest_last newer oldest, append_assoc oldest (oldest_first newer) rows)

-- all but the last
all_but_oldest : (newer : List Part) (oldest : Part) → take (length (newer ++ oldest ∷ []) - 1) (newer ++ oldest ∷ []) ≡ newer
all_but_oldest newer oldest =
    let long : length (newer ++ oldest ∷ []) - 1 ≡ length newer = omega (arith, length-append newer (oldest ∷ [])) in
    cc (take-append_seam newer (oldest ∷ []))

-- the map of rows, some of which replace others that make the same of each map
map_replaced : (front some other rest : List StoredRow) → ((m : Map) → map_after m (map command_of other) ≡ map_after m (map command_of some))
    → map_of_rows (front ++ (other ++ rest)) ≡ map_of_rows (front ++ (some ++ rest))
map_replaced front some other rest same = search (arith, map_law, map-append, map_after-append)

module _ (s : Stores) (body : Body) (rows : List StoredRow) (table : Slots) (region : ℕ) (has : HasOldest rows s) (is : IsTableOf s.shape rows table) where
  abbrev part : Part
  part = record { region = region; rows = converted_rows s.shape table rows }

  abbrev oldest : Part
  oldest = record { region = has.region; rows = rows }

  abbrev new : Stores
  new = with_converted body part s

  -- the rows of the entries and of the older hash stores, and those of the newer logs
  abbrev front : List StoredRow
  front = s.entries ++ oldest_first (map known_rows s.hashes)

  abbrev rest : List StoredRow
  rest = oldest_first (map part_rows has.newer)

  -- the oldest log's rows are between them
  rows_old : rows_of s ≡ front ++ (rows ++ rest)
  unfolding rows_of
  rows_old = cc (has.logs, map-append part_rows has.newer (oldest ∷ []), oldest_last (map part_rows has.newer) rows)

  -- the newer logs are left
  pub newer_left : take (length s.logs - 1) s.logs ≡ has.newer
  newer_left = cc (has.logs, all_but_oldest has.newer oldest)

  -- and the new hash store's rows are there in place of the log's
  rows_new : rows_of new ≡ front ++ (known_rows part ++ rest)
  unfolding rows_of with_converted
  rows_new = cc (newer_left, append_assoc s.entries (oldest_first (map known_rows s.hashes)) (known_rows part), append_assoc front (known_rows part) rest)

  -- they make the same map
  same_map : map_of_rows (rows_of new) ≡ map_of_rows (rows_of s)
  same_map = cc (rows_new, map_replaced front rows (known_rows part) rest (λ m. converted_map s.shape rows table m is), rows_old)

  -- also with rows behind
  same_behind : (more : List StoredRow) → map_of_rows (rows_of new ++ more) ≡ map_of_rows (rows_of s ++ more)
  same_behind more = cc (map_law (rows_of new) more, same_map, map_law (rows_of s) more)

  -- the puts of the one count for those of the other
  charge_moves : charge_of new + put_count rows ≡ charge_of s + put_count (known_rows part)
  charge_moves = search (arith, rows_old, rows_new, count_law)

  -- and nothing is found
  still_sound : IsSound s → IsSound new
  unfolding with_converted
  still_sound sound = search (arith, finds_nothing, flat_map-append, is_sound, newer_left, nothing_first, nothing_both, converted_sound, charge_moves, converted_charge)

-- the rows that are due may be in a hash store in place of the oldest log
pub converts : ConvertsLaw
converts s body rows table region has is sound = record {
  map = same_map s body rows table region has is;
  behind = same_behind s body rows table region has is;
  sound = still_sound s body rows table region has is sound;
  charge = charge_moves s body rows table region has is;
}
