-- When a slot is sound, and what its head means for that.
use Rattle.silt_hash_store.proofs.Common.{◌≡◌, ℕ, ◌+◌, ◌*◌, ◌≤◌, ◌<◌, ◌==◌, true, false, List, [], ◌∷◌, ◌++◌, length, take, get_or, slice_get, Some, None, refl, ap, ◌∙◌, arith, is_some}
use Rattle.silt_hash_store.proofs.Common.{cond-true, cond-false, eq-eqb, get_or-map-range_with_len, length-map-range_with_len, map-range_with_len_more, take-map-range_with_len}
use Rattle.silt_hash_store.proofs.Common.{slice_get-get_or, first_bucket, second_bucket, Shape, hash_at, row_len, kind_of, tag_of, has_known_kind, StoredRow}
use Rattle.silt_cuckoo.specs.Placing.{other_bucket}
use Rattle.silt_hash_store.specs.Findings.{holds_key, is_in_bucket, is_sound_hash_slot}
use Rattle.silt_hash_store.specs.Slots.{hash_rows, rows_before, slot_row}
use Rattle.silt_log.specs.Rows.{body_row}

-- ---- the rows of a region

-- all rows are those before the last slot
pub all_before : (s : Shape) (region : ℕ) (image : List ℕ) → hash_rows s region image ≡ rows_before s region image (4 * s.buckets)
unfolding hash_rows rows_before slot_row
all_before s region image = refl

-- the first of them
pub before_taken : (s : Shape) (region : ℕ) (image : List ℕ) (n : ℕ) → n ≤ 4 * s.buckets → take n (hash_rows s region image) ≡ rows_before s region image n
unfolding hash_rows rows_before slot_row
before_taken s region image n most = take-map-range_with_len (body_row (hash_at s region) (row_len s) image) 0 (4 * s.buckets) n most

-- as many as are asked for
pub before_count : (s : Shape) (region : ℕ) (image : List ℕ) (n : ℕ) → length (rows_before s region image n) ≡ n
unfolding rows_before
before_count s region image n = length-map-range_with_len (slot_row s region image) 0 n

-- each is the row in its slot
pub before_at : (s : Shape) (region : ℕ) (image : List ℕ) (n slot : ℕ) (d : StoredRow) → slot < n → get_or (rows_before s region image n) slot d ≡ slot_row s region image slot
unfolding rows_before
before_at s region image n slot d below = get_or-map-range_with_len (slot_row s region image) 0 n slot slot d below (omega arith)

pub before_there : (s : Shape) (region : ℕ) (image : List ℕ) (n slot : ℕ) → slot < n → slice_get (rows_before s region image n) slot ≡ Some (slot_row s region image slot)
before_there s region image n slot below =
    let row : StoredRow = slot_row s region image slot in
    slice_get-get_or (rows_before s region image n) slot row (omega (arith, before_count s region image n)) ∙ ap Some (before_at s region image n slot row below)

-- one more
pub before_more : (s : Shape) (region : ℕ) (image : List ℕ) (n : ℕ) → rows_before s region image (n + 1) ≡ rows_before s region image n ++ slot_row s region image n ∷ []
unfolding rows_before
before_more s region image n = map-range_with_len_more (slot_row s region image) 0 n n (omega arith)

-- ---- kinds

-- a row of a known kind is not empty
pub known_not_empty : (row : StoredRow) → has_known_kind row ≡ true → (row.kind == 0) ≡ false
known_not_empty row known = grind arith

-- an empty one is of no known kind
pub empty_not_known : (row : StoredRow) → row.kind ≡ 0 → has_known_kind row ≡ false
empty_not_known row empty = ap (λ n. is_some (kind_of n)) empty

-- ---- tags

-- the tag of an empty row
pub tag_empty : (buckets slot : ℕ) (row : StoredRow) → row.kind ≡ 0 → tag_of buckets slot row ≡ None
tag_empty buckets slot row empty = cond-true _ _ _ (eq-eqb row.kind 0 empty)

-- the tag of a row of a known kind
pub tag_known : (buckets slot : ℕ) (row : StoredRow) → has_known_kind row ≡ true → tag_of buckets slot row ≡ Some (other_bucket (first_bucket buckets row.key) (second_bucket buckets row.key) slot)
tag_known buckets slot row known = cond-false _ _ _ (known_not_empty row known)

-- ---- sound slots

module _ (s : Shape) (rows : List StoredRow) (slot : ℕ) (row : StoredRow) where
  -- an empty slot is sound
  pub sound_empty : row.kind ≡ 0 → is_sound_hash_slot s rows slot row ≡ true
  sound_empty empty = grind arith

  -- so is one with a row of a known kind in its key's buckets that no earlier slot has
  pub sound_known : has_known_kind row ≡ true → is_in_bucket s slot row.key ≡ true → holds_key row.key (take slot rows) ≡ false → is_sound_hash_slot s rows slot row ≡ true
  sound_known known inside alone = rw (known_not_empty row known, known, inside, alone) refl

  pub unsound_twice : has_known_kind row ≡ true → holds_key row.key (take slot rows) ≡ true → is_sound_hash_slot s rows slot row ≡ false
  unsound_twice known held = grind arith

  -- what a sound slot with a row of a known kind has
  pub sound_parts : has_known_kind row ≡ true → is_sound_hash_slot s rows slot row ≡ true → (is_in_bucket s slot row.key ≡ true) × (holds_key row.key (take slot rows) ≡ false)
  sound_parts known sound = grind (arith, unsound_twice)
