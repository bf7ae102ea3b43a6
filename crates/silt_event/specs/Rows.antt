-- Rows as commands, and the map that they make.
use Rattle.std.specs.Prelude.{ℕ, ◌+◌, if◌then◌else◌, List, map, ◌≡◌, ◌++◌, Option, Some, None, reverse, find, option_and_then}
use Rattle.silt_frame.specs.Rows.{StoredRow, is_put_row, put_count}
use Rattle.std.specs.FinMap.{empty, get}
use Rattle.std.specs.Str.{bytes_eq}
use Rattle.silt_event.specs.Commands.{Command, put, delete, Map, map_after}

-- what a row does to the map
abbrev pub command_of : StoredRow → Command
command_of row = if is_put_row row then put row.key row.value else delete row.key

-- the map that rows make, in order from the oldest
abbrev pub map_of_rows : List StoredRow → Map
map_of_rows rows = map_after empty (map command_of rows)

-- the last row of a key
abbrev pub newest_row : List StoredRow → List ℕ → Option StoredRow
newest_row rows key = find (λ row. bytes_eq row.key key) (reverse rows)

-- the value that a row gives its key: none if the row is a delete
abbrev pub value_given : StoredRow → Option (List ℕ)
value_given row = if is_put_row row then Some row.value else None

-- ---- their laws

-- the map after more rows
abbrev pub MapLaw : Type 0
MapLaw = (rows more : List StoredRow) → map_of_rows (rows ++ more) ≡ map_after (map_of_rows rows) (map command_of more)

-- the number of puts among more rows
abbrev pub CountLaw : Type 0
CountLaw = (rows more : List StoredRow) → put_count (rows ++ more) ≡ put_count rows + put_count more

-- the last row of a key decides: a put gives the key a value, a delete gives it none
abbrev pub NewestLaw : Type 0
NewestLaw = (rows : List StoredRow) (key : List ℕ) → get (map_of_rows rows) key ≡ option_and_then value_given (newest_row rows key)
