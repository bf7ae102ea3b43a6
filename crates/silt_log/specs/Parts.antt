-- The rows of one region of a device, and of several.
use Rattle.std.specs.Prelude.{ℕ, List, ◌∷◌, [], ◌++◌, filter}
use Rattle.silt_disk.specs.Layout.{Shape}
use Rattle.silt_log.specs.Rows.{log_rows}
use Rattle.silt_frame.specs.Rows.{StoredRow, has_known_kind}

-- A store with the number of its region. The rows of a log are in order from the oldest. Those of a hash region are in the order of
-- its slots, and empty slots have kind 0.
pub record Part : Type 0 where
  pub region : ℕ
  pub rows : List StoredRow

-- the rows of a store
abbrev pub part_rows : Part → List StoredRow
part_rows part = part.rows

-- the rows of a hash store that are puts and deletes
abbrev pub known_rows : Part → List StoredRow
known_rows part = filter has_known_kind part.rows

-- the rows of stores, which are listed from the newest, as one list from the oldest row
abbrev pub oldest_first : List (List StoredRow) → List StoredRow
oldest_first [] = []
oldest_first (newest ∷ older) = oldest_first older ++ newest

-- a log of an image
abbrev pub log_part : Shape → List ℕ → ℕ → Part
log_part shape image region = record { region = region; rows = log_rows shape region image }
