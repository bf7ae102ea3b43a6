-- The bytes of a log region: its commit bytes, and the rows in its bodies.
use Rattle.std.specs.Prelude.{◌≡◌, ℕ, ◌+◌, ◌*◌, ◌≤◌, ◌<◌, Bool, true, false, Option, List, length, map, drop, replicate, slice_index, slice_range}
use Rattle.std.specs.List.{prefix_len, range_with_len, list_any}
use Rattle.std.specs.Option.{is_some, option_map}
use Rattle.silt_disk.specs.Layout.{Shape, row_len, commits_at, bodies_at}
use Rattle.silt_frame.specs.Commit.{is_open}
use Rattle.silt_frame.specs.Frame.{kind_byte, kind_of}
use Rattle.silt_frame.specs.declared.key.Key.{Key}
use Rattle.silt_frame.specs.declared.key.Kind.{Kind}
use Rattle.silt_frame.specs.declared.key.Kind.TheVariants.{Put, Delete}
use Rattle.silt_frame.specs.declared.key.Row.{Row}
use Rattle.silt_frame.specs.Rows.{StoredRow, row_of, has_known_kind}

-- a row of this kind may have this value: a put may have any, a delete has zeros
abbrev pub IsValueOf : Kind → List ℕ → Type 0
IsValueOf Put value = Unit {0}
IsValueOf Delete value = value ≡ replicate (length value) 0

-- a row of this kind may have this value in a store whose values are this long
pub record IsRowValue (value_len : ℕ) (kind : Kind) (value : List ℕ) : Type 0 where
  pub long : length value ≡ value_len
  pub zeros : IsValueOf kind value

-- the kind and the key of a row; none if its kind is unknown
unfoldable pub row_head : StoredRow → Option (Kind × Key)
row_head row = option_map (λ kind. (kind, record { 0 = row.key })) (kind_of row.kind)

-- ---- by offsets: where the commit bytes begin, how many there are, where the bodies begin, how long each is

-- the commit bytes
abbrev pub commit_bytes : ℕ → ℕ → List ℕ → List ℕ
commit_bytes commits count image = slice_range image commits (commits + count)

-- the row in the body of this number
abbrev pub body_row : ℕ → ℕ → List ℕ → ℕ → StoredRow
body_row bodies len image place = row_of (slice_range image (bodies + place * len) (bodies + place * len + len))

-- the first n of this many commit bytes are open, and all others are closed
pub record CommitsAre (commits count n : ℕ) (image : List ℕ) : Type 0 where
  pub opened : (place : ℕ) → place < n → is_open (slice_index image (commits + place)) ≡ true
  pub closed : (place : ℕ) → n ≤ place → place < count → is_open (slice_index image (commits + place)) ≡ false

-- ---- of a log region

-- where a row's body begins
abbrev pub body_at : Shape → ℕ → ℕ → ℕ
body_at shape region place = bodies_at shape region + place * row_len shape

-- the row in the body of this number, whether its commit byte is open or not
unfoldable pub row_at : Shape → ℕ → List ℕ → ℕ → StoredRow
row_at shape region image place = body_row (bodies_at shape region) (row_len shape) image place

-- how many commit bytes are open before the first closed one
unfoldable pub open_count : Shape → ℕ → List ℕ → ℕ
open_count shape region image = prefix_len is_open (commit_bytes (commits_at shape region) shape.log_capacity image)

-- a commit byte past the first closed one is open
unfoldable pub has_stale_commit : Shape → ℕ → List ℕ → Bool
has_stale_commit shape region image =
    list_any is_open (drop (open_count shape region image) (commit_bytes (commits_at shape region) shape.log_capacity image))

-- this many rows from a place on, in order from the oldest
unfoldable pub rows_from : Shape → ℕ → List ℕ → ℕ → ℕ → List StoredRow
rows_from shape region image from count = map (row_at shape region image) (range_with_len from count)

-- the first n bodies as rows, in order from the oldest
abbrev pub first_rows : Shape → ℕ → List ℕ → ℕ → List StoredRow
first_rows shape region image n = rows_from shape region image 0 n

-- the rows before the first closed commit byte, in order from the oldest
unfoldable pub log_rows : Shape → ℕ → List ℕ → List StoredRow
log_rows shape region image = first_rows shape region image (open_count shape region image)

-- the kind, the key and the number of this stored row, whose kind is known
pub record IsRow (number : ℕ) (stored : StoredRow) (row : Row) : Type 0 where
  pub known : has_known_kind stored ≡ true
  pub kind : kind_byte row.kind ≡ stored.kind
  pub key : row.key.0 ≡ stored.key
  pub place : row.place ≡ number

-- the kind, the key and the number of each of these stored rows, in order
pub record AreRows (rows : List Row) (stored : List StoredRow) : Type 0 where
  pub kinds : map (λ row. kind_byte row.kind) rows ≡ map (λ row. row.kind) stored
  pub keys : map (λ row. row.key.0) rows ≡ map (λ row. row.key) stored
  pub places : map (λ row. row.place) rows ≡ range_with_len 0 (length stored)

-- the row of this number is the first of an unknown kind among the first rows, this many
pub record FirstUnknown (row : ℕ → StoredRow) (count place : ℕ) : Type 0 where
  pub counts : place < count
  pub unknown : has_known_kind (row place) ≡ false
  pub known : (earlier : ℕ) → earlier < place → has_known_kind (row earlier) ≡ true
