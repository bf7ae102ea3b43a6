-- The last row of a key.
use Rattle.std.specs.Prelude.{◌≡◌, ◌≢◌, ℕ, ◌<◌, List, [], length, get_or, slice_get, Option, Some, None}
use Rattle.silt_frame.specs.Frame.{kind_byte}
use Rattle.silt_frame.specs.Rows.{StoredRow, keys_of}
use Rattle.silt_log.specs.declared.found.Found.{Found}

-- the row of this number is this one, it has the key, and no later row has it
pub record IsLastRow (rows : List StoredRow) (key : List ℕ) (place : ℕ) (row : StoredRow) : Type 0 where
  pub there : slice_get rows place ≡ Some row
  pub has_key : row.key ≡ key
  pub last : (later : ℕ) → place < later → later < length rows → get_or (keys_of rows) later [] ≢ key

-- no row has the key
abbrev pub HasNoRow : List StoredRow → List ℕ → Type 0
HasNoRow rows key = (place : ℕ) → place < length rows → get_or (keys_of rows) place [] ≢ key

-- the result is the kind and the place of the key's last row, or none if no row has the key
abbrev pub FindsLast : List StoredRow → List ℕ → Option Found → Type 0
FindsLast rows key None = HasNoRow rows key
FindsLast rows key (Some found) = (row : StoredRow) × IsLastRow rows key found.place row × (kind_byte found.kind ≡ row.kind)
