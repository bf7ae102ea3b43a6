-- The entry of a key.
use Rattle.std.specs.Prelude.{◌≡◌, ◌≢◌, ℕ, ◌<◌, List, [], length, get_or, slice_get, Option, Some, None}
use Rattle.silt_frame.specs.Rows.{StoredRow, entry_row, keys_of}

-- the row at this place is this one, it has the key, and no other has it
pub record IsOnlyRow (rows : List StoredRow) (key : List ℕ) (place : ℕ) (row : StoredRow) : Type 0 where
  pub there : slice_get rows place ≡ Some row
  pub has_key : row.key ≡ key
  pub only : (other : ℕ) → other < length rows → get_or (keys_of rows) other [] ≡ key → other ≡ place

-- no row has the key
abbrev pub HasNoEntry : List StoredRow → List ℕ → Type 0
HasNoEntry rows key = (place : ℕ) → place < length rows → get_or (keys_of rows) place [] ≢ key

-- the result is the place of the key's one row, or none if no row has the key
abbrev pub FindsEntry : List StoredRow → List ℕ → Option ℕ → Type 0
FindsEntry rows key None = HasNoEntry rows key
FindsEntry rows key (Some place) = (row : StoredRow) × IsOnlyRow rows key place row

-- one row has the key, and it has the value
abbrev pub HasOnlyValue : List StoredRow → List ℕ → List ℕ → Type 0
HasOnlyValue rows key value = (place : ℕ) × (row : StoredRow) × IsOnlyRow rows key place row × (row.value ≡ value)

-- the row at this place has the key and the value
abbrev pub HasKeyAndValue : List StoredRow → ℕ → List ℕ → List ℕ → Type 0
HasKeyAndValue rows place key value = (row : StoredRow) × (slice_get rows place ≡ Some row) × (row.key ≡ key) × (row.value ≡ value)

-- the row at this place has the value
abbrev pub HasValue : List StoredRow → ℕ → List ℕ → Type 0
HasValue rows place value = (row : StoredRow) × (slice_get rows place ≡ Some row) × (row.value ≡ value)

-- these bytes encode the row at this place
abbrev pub HasEntry : List StoredRow → ℕ → List ℕ → Type 0
HasEntry rows place bytes = slice_get rows place ≡ Some (entry_row bytes)
