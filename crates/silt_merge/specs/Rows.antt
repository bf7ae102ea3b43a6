-- The rows that a merge takes, and the entries that it makes of them.
use Rattle.std.specs.Prelude.{ℕ, Bool, List, [], ◌∷◌, ◌++◌, filter, length, map}
use Rattle.std.specs.List.{list_any}
use Rattle.std.specs.Ordering.{match_ordering, nat_cmp}
use Rattle.std.specs.Cmp.Lexicographic.{slice_cmp}
use Rattle.std.specs.Str.{bytes_eq}
use Rattle.silt_disk.specs.Layout.{Shape}
use Rattle.silt_hash_store.specs.State.{HashState}
use Rattle.silt_log.specs.Parts.{known_rows, oldest_first}
use Rattle.silt_hash_store.specs.Slots.{hash_part}
use Rattle.silt_sorted_store.specs.State.{sorted_rows, SortedState}
use Rattle.silt_frame.specs.Rows.{StoredRow, is_put_row}

-- a row inserted among rows that rise by key, unless one of them has its key
abbrev pub with_older : StoredRow → List StoredRow → List StoredRow
with_older row [] = row ∷ []
with_older row (first ∷ rest) = match_ordering (slice_cmp nat_cmp row.key first.key) (row ∷ first ∷ rest) (first ∷ rest) (first ∷ with_older row rest)

-- the newest row of each key, in the order of the keys, from rows in order from the oldest
abbrev pub newest_rows : List StoredRow → List StoredRow
newest_rows [] = []
newest_rows (row ∷ rows) = with_older row (newest_rows rows)

-- the number of different keys of rows
abbrev pub key_count : List StoredRow → ℕ
key_count rows = length (newest_rows rows)

-- the entries made of rows: the newest row of each key, if it is a put
unfoldable pub merged_rows : List StoredRow → List StoredRow
merged_rows rows = filter is_put_row (newest_rows rows)

-- one of the rows has this key
abbrev pub has_row_with : List ℕ → List StoredRow → Bool
has_row_with key rows = list_any (λ row. bytes_eq row.key key) rows

-- the regions of hash stores
abbrev pub regions_of : List HashState → List ℕ
regions_of stores = map (λ store. store.region) stores

-- the rows of known kinds in hash regions, which are listed from the newest, as one list from the oldest row
abbrev pub rows_of_hashes : Shape → List ℕ → List ℕ → List StoredRow
rows_of_hashes shape image regions = oldest_first (map known_rows (map (hash_part shape image) regions))

-- the entries of a sorted store in an image
abbrev pub entries_in : List ℕ → SortedState → List StoredRow
entries_in image sorted = sorted_rows sorted.shape sorted.region sorted.count image

-- the merged rows from the oldest: the entries, and then the rows of the hash stores, which are listed from the newest
unfoldable pub sources : List ℕ → List HashState → SortedState → List StoredRow
sources image stores sorted = entries_in image sorted ++ rows_of_hashes sorted.shape image (regions_of stores)
