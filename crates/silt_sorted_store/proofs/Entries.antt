-- The entries of a sorted region, by their places, and what a read of a part of one gives.
use Rattle.silt_sorted_store.proofs.Common.{◌≡◌, ℕ, ◌+◌, ◌*◌, ◌<◌, ◌≤◌, List, [], length, take, drop, get_or, slice_get, slice_range, Some, sym, ap, ◌∙◌, arith, get_or-map}
use Rattle.silt_sorted_store.proofs.Common.{length-map-range_with_len, get_or-map-range_with_len, slice_get-get_or, get_or_from_slice_get, slice_get_within, Shape, entry_len, next_region}
use Rattle.silt_sorted_store.proofs.Common.{StoredRow, entry_row, keys_of, slice_of_slice, slice_to_end, sorted_entry_at, HasEntry, HasValue, EntriesLaw}
use Rattle.silt_sorted_store.specs.State.{sorted_rows}

-- a part of a region ends within what the region has room for
pub part_inside : (start len capacity place end : ℕ) → start + capacity * len ≤ end → place < capacity → start + place * len + len ≤ end
part_inside start len capacity place end fits below = let apart = next_region place capacity len below in omega (arith, apart, fits)

-- ---- rows by their places

-- a row and its key
pub key_of_row : (rows : List StoredRow) (place : ℕ) (row : StoredRow) → slice_get rows place ≡ Some row → get_or (keys_of rows) place [] ≡ row.key
key_of_row rows place row is =
    get_or-map (λ (r : StoredRow). r.key) rows place row [] (slice_get_within rows place row is) ∙ ap (λ (r : StoredRow). r.key) (get_or_from_slice_get rows place row row is)

-- at each place is a row
pub row_inside : (rows : List StoredRow) (place : ℕ) → place < length rows → (row : StoredRow) × (slice_get rows place ≡ Some row)
row_inside rows place inside =
    let blank : StoredRow = record { kind = 0; key = []; value = [] } in
    (get_or rows place blank, slice_get-get_or rows place blank inside)

module _ (shape : Shape) (region count : ℕ) (image : List ℕ) where
  -- the bytes of an entry
  abbrev pub entry_bytes_at : ℕ → List ℕ
  entry_bytes_at place = slice_range image (sorted_entry_at shape region place) (sorted_entry_at shape region place + entry_len shape)

  -- there are so many entries
  pub entry_count : length (sorted_rows shape region count image) ≡ count
  unfolding sorted_rows
  entry_count = length-map-range_with_len (λ place. entry_row (entry_bytes_at place)) 0 count

  -- each of them is there
  pub entry_there : (place : ℕ) → place < count → slice_get (sorted_rows shape region count image) place ≡ Some (entry_row (entry_bytes_at place))
  unfolding sorted_rows
  entry_there place below =
      let row : ℕ → StoredRow = λ (p : ℕ). entry_row (entry_bytes_at p) in
      slice_get-get_or (sorted_rows shape region count image) place (row place) (omega (arith, length-map-range_with_len row 0 count))
      ∙ ap Some (get_or-map-range_with_len row 0 count place place (row place) below (omega arith))

  -- each is a put
  pub entry_put : (place : ℕ) (row : StoredRow) → slice_get (sorted_rows shape region count image) place ≡ Some row → row.kind ≡ 1
  entry_put place row is = search (arith, entry_count, slice_get_within, entry_there)

  -- the key of an entry that was read
  pub key_read : (place at : ℕ) (bytes : List ℕ) → place < count → at ≡ sorted_entry_at shape region place → at + entry_len shape ≤ length image → bytes ≡ slice_range image at (at + 20)
      → get_or (keys_of (sorted_rows shape region count image)) place [] ≡ bytes
  key_read place at bytes below here fits read =
      let len : ℕ = entry_len shape in
      let none : at + 0 ≡ at = omega arith in
      let front : slice_range image at (at + 20) ≡ take 20 (slice_range image at (at + len)) = cc (slice_of_slice image at len 0 20 (omega arith) fits) in
      cc (key_of_row (sorted_rows shape region count image) place (entry_row (entry_bytes_at place)) (entry_there place below))

  -- the value of an entry that was read
  pub value_read : (place at n : ℕ) (bytes : List ℕ) → place < count → at ≡ sorted_entry_at shape region place → at + entry_len shape ≤ length image
      → n ≡ shape.value_len → bytes ≡ slice_range image (at + 20) (at + 20 + n)
      → HasValue (sorted_rows shape region count image) place bytes
  value_read place at n bytes below here fits long read =
      let len : ℕ = entry_len shape in (
        entry_row (entry_bytes_at place),
        entry_there place below,
        sym (read ∙ slice_to_end image at len 20 n (omega arith) fits ∙ ap (λ n. drop 20 (slice_range image n (n + len))) here),
      )

  -- an entry that was read
  pub entry_read : (place at n : ℕ) (bytes : List ℕ) → place < count → at ≡ sorted_entry_at shape region place → n ≡ entry_len shape
      → bytes ≡ slice_range image at (at + n) → HasEntry (sorted_rows shape region count image) place bytes
  entry_read place at n bytes below here long read = search (arith, entry_there)

-- the entries of a region are so many puts
pub entries_law : EntriesLaw
entries_law shape region count image = record { counted = entry_count shape region count image; puts = entry_put shape region count image }
