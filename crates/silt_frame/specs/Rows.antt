-- Rows as they lie on a device.
use Rattle.std.specs.Prelude.{◌≡◌, ◌≤◌, ◌==◌, ℕ, Bool, List, ◌∷◌, ◌++◌, length, map, flat_map, count_by, take, drop, slice_index, slice_range}
use Rattle.std.specs.Option.{is_some}
use Rattle.std.specs.Ordering.{nat_cmp}
use Rattle.std.specs.declared.cmp.Ordering.{Ordering}
use Rattle.std.specs.Cmp.Lexicographic.{slice_cmp}
use Rattle.silt_frame.specs.Frame.{head_len, key_len, kind_byte, kind_of}
use Rattle.silt_frame.specs.declared.key.Key.{Key}
use Rattle.silt_frame.specs.declared.key.Kind.{Kind}
use Rattle.silt_frame.specs.declared.key.Kind.TheVariants.{Put, Delete}

-- a row as it lies on the device: the kind byte, the key and the value
pub record StoredRow : Type 0 where
  pub kind : ℕ
  pub key : List ℕ
  pub value : List ℕ

-- the row that these bytes encode: the kind byte, the key, and the value
abbrev pub row_of : List ℕ → StoredRow
row_of body = record { kind = slice_index body 0; key = slice_range body 1 head_len; value = drop head_len body }

-- the row that a write of this kind, key and value makes
abbrev pub stored_row : Kind → Key → List ℕ → StoredRow
stored_row kind key value = record { kind = kind_byte kind; key = key.0; value = value }

-- the kind byte is that of a put or a delete
abbrev pub has_known_kind : StoredRow → Bool
has_known_kind row = is_some (kind_of row.kind)

-- a row is a put
abbrev pub is_put_row : StoredRow → Bool
is_put_row row = row.kind == kind_byte Put

-- the put that the bytes of a sorted entry represent
abbrev pub entry_row : List ℕ → StoredRow
entry_row bytes = record { kind = kind_byte Put; key = take key_len bytes; value = drop key_len bytes }

-- the bytes of a row on the device: the inverse of `row_of`
abbrev pub row_bytes : StoredRow → List ℕ
row_bytes row = row.kind ∷ (row.key ++ row.value)

-- the bytes of some rows, concatenated
abbrev pub rows_bytes : List StoredRow → List ℕ
rows_bytes rows = flat_map row_bytes rows

-- the bytes of a put as a sorted entry: the inverse of `entry_row`
abbrev pub put_bytes : StoredRow → List ℕ
put_bytes row = row.key ++ row.value

-- the bytes of some puts as sorted entries, concatenated
abbrev pub entries_bytes : List StoredRow → List ℕ
entries_bytes rows = flat_map put_bytes rows

-- decoding bytes to a row or a put and encoding it again gives the same bytes
abbrev pub RowBytesLaw : Type 0
RowBytesLaw =
    ((bytes : List ℕ) → head_len ≤ length bytes → row_bytes (row_of bytes) ≡ bytes)
    × ((bytes : List ℕ) → put_bytes (entry_row bytes) ≡ bytes)

-- the keys of some rows, in order
abbrev pub keys_of : List StoredRow → List (List ℕ)
keys_of rows = map (λ row. row.key) rows

-- the number of puts among the rows
abbrev pub put_count : List StoredRow → ℕ
put_count rows = count_by is_put_row rows

-- the number of puts in one row of this kind: 1 for a put, 0 for a delete
abbrev pub puts_of : Kind → ℕ
puts_of Put = 1
puts_of Delete = 0

-- the order of keys
abbrev pub key_cmp : Key → Key → Ordering
key_cmp a b = slice_cmp nat_cmp a.0 b.0
