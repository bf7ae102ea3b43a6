-- The bytes of rows and of puts.
use Rattle.std.proofs.Common.{◌≡◌, ◌≤◌, ℕ, List, [], ◌∷◌, ◌++◌, length, arith, ap, ◌∙◌, append-nil}
use Rattle.std.proofs.lemmas.List.{take-append-drop}
use Rattle.std.proofs.lemmas.List.Concat.{flat_map-append}
use Rattle.silt_frame.specs.Frame.{head_len, key_len}
use Rattle.silt_frame.specs.Rows.{RowBytesLaw, StoredRow, entries_bytes, entry_row, put_bytes, row_bytes, row_of, rows_bytes}

-- a row decoded from bytes has these bytes
pub row_bytes_of : (bytes : List ℕ) → head_len ≤ length bytes → row_bytes (row_of bytes) ≡ bytes
row_bytes_of [] long = absurd (omega arith)
row_bytes_of (kind ∷ rest) long = ap (λ (l : List ℕ). kind ∷ l) (take-append-drop key_len rest)

-- a put decoded from bytes has these bytes
pub put_bytes_of : (bytes : List ℕ) → put_bytes (entry_row bytes) ≡ bytes
put_bytes_of bytes = take-append-drop key_len bytes

-- both laws together
pub row_bytes_law : RowBytesLaw
row_bytes_law = (row_bytes_of, put_bytes_of)

-- the bytes of rows with one row appended
pub rows_bytes_more : (rows : List StoredRow) (row : StoredRow) → rows_bytes (rows ++ row ∷ []) ≡ rows_bytes rows ++ row_bytes row
rows_bytes_more rows row = flat_map-append row_bytes rows (row ∷ []) ∙ ap (λ (l : List ℕ). rows_bytes rows ++ l) (append-nil (row_bytes row))

-- the bytes of entries with one entry appended
pub entries_bytes_more : (rows : List StoredRow) (row : StoredRow) → entries_bytes (rows ++ row ∷ []) ≡ entries_bytes rows ++ put_bytes row
entries_bytes_more rows row = flat_map-append put_bytes rows (row ∷ []) ∙ ap (λ (l : List ℕ). entries_bytes rows ++ l) (append-nil (put_bytes row))
