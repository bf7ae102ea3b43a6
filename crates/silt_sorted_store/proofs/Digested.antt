-- The bytes of entries, which are digested.
use Rattle.silt_sorted_store.proofs.Common.{◌≡◌, ℕ, zero, suc, ◌+◌, ◌-◌, ◌*◌, ◌≤◌, List, [], ◌∷◌, ◌++◌, length, take, drop, slice_range, refl, sym, ap, ◌∙◌, arith, append_assoc, append-nil}
use Rattle.silt_sorted_store.proofs.Common.{take-add, take_all, take_more, get_or_from_slice_get, slice_get_within, add-mul, entry_len, sorted_at, StoredRow, entries_bytes, entry_row}
use Rattle.silt_sorted_store.proofs.Common.{HoldsEntries, EntriesBytesLaw, sorted_rows}
use Rattle.std.proofs.lemmas.List.Edits.{length-between}
use Rattle.silt_frame.proofs.RowBytes.{entries_bytes_more, put_bytes_of}
use Rattle.silt_sorted_store.proofs.Chunks.{entries_read}
use Rattle.silt_sorted_store.proofs.Entries.{entry_count}

-- the bytes of some entries, and of one more that has these bytes
pub bytes_more : (rows : List StoredRow) (bytes : List ℕ) → entries_bytes (rows ++ entry_row bytes ∷ []) ≡ entries_bytes rows ++ bytes
bytes_more rows bytes = entries_bytes_more rows (entry_row bytes) ∙ ap (λ (l : List ℕ). entries_bytes rows ++ l) (put_bytes_of bytes)

-- the front of some bytes, with the part behind it
front_more : (bytes : List ℕ) (n len : ℕ) → take (n * len) bytes ++ slice_range bytes (n * len) (n * len + len) ≡ take (suc n * len) bytes
front_more bytes n len =
    let at : ℕ = n * len in
    let part : at + len - at ≡ len = omega arith in
    let next : suc n ≡ n + 1 = omega arith in
    let whole : at + len ≡ suc n * len = omega (arith, add-mul n 1 len, ap (λ (k : ℕ). k * len) next) in
    ap (λ k. take at bytes ++ take k (drop at bytes)) part ∙ sym (take-add at len bytes) ∙ ap (λ k. take k bytes) whole

module _ (rows : List StoredRow) (place count len : ℕ) (bytes : List ℕ) (holds : HoldsEntries rows place count len bytes) where
  -- the bytes of the rows up to one of those that some bytes hold
  bytes_upto : (n : ℕ) → n ≤ count → entries_bytes (take (place + n) rows) ≡ entries_bytes (take place rows) ++ take (n * len) bytes
  bytes_upto zero most = search (arith, append-nil)
  bytes_upto (suc n) most =
      let part : List ℕ = slice_range bytes (n * len) (n * len + len) in
      let there = holds n (omega arith) in
      let next : place + suc n ≡ place + n + 1 = omega arith in
      let one : take (place + suc n) rows ≡ take (place + n) rows ++ entry_row part ∷ [] =
      cc (take_more rows (place + n) (entry_row part) (slice_get_within rows (place + n) (entry_row part) there), get_or_from_slice_get rows (place + n) (entry_row part) (entry_row part) there) in
      cc (bytes_more (take (place + n) rows) part, bytes_upto n (omega arith), append_assoc (entries_bytes (take place rows)) (take (n * len) bytes) part, front_more bytes n len)

  -- those of the rows before a place and of the rows that these bytes hold are those before the place, and then these bytes
  pub bytes_of_chunk : length bytes ≡ count * len → entries_bytes (take (place + count) rows) ≡ entries_bytes (take place rows) ++ bytes
  bytes_of_chunk long = bytes_upto count (omega arith) ∙ ap (λ l. entries_bytes (take place rows) ++ l) (take_all (count * len) bytes (omega (arith, long)))

-- the bytes of the entries of a region are the device's bytes there
pub entries_bytes_law : EntriesBytesLaw
entries_bytes_law shape region count image fits =
    let at : ℕ = sorted_at shape region in
    let n : ℕ = count * entry_len shape in
    let bytes : List ℕ = slice_range image at (at + n) in
    let rows : List StoredRow = sorted_rows shape region count image in
    let holds = entries_read shape region count image 0 count at n bytes (omega arith) (omega arith) refl fits refl in
    ap entries_bytes (sym (take_all (0 + count) rows (omega (arith, entry_count shape region count image)))) ∙ bytes_of_chunk rows 0 count _ bytes holds
    (omega (arith, length-between image at (at + n) fits))
