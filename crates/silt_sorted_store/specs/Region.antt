-- The rows that are written into a sorted region.
use Rattle.std.specs.Prelude.{ℕ, Bool, true, false, ◌&&◌, nat_lt, List, [], ◌∷◌}
use Rattle.silt_frame.specs.Rows.{entry_row, StoredRow}

-- the row of an entry to write
abbrev pub due_rows : Bool → List ℕ → List StoredRow
due_rows true bytes = entry_row bytes ∷ []
due_rows false bytes = []

-- whether an entry is written at a place: it is due, and the region has the place
abbrev pub is_written : Bool → ℕ → ℕ → Bool
is_written is_due place capacity = is_due && nat_lt place capacity
