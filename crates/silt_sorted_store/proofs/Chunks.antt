-- The keys of entries that were read together.
use Rattle.silt_sorted_store.proofs.Common.{◌≡◌, ℕ, ◌+◌, ◌*◌, ◌<◌, ◌≤◌, List, ◌++◌, length, take, drop, slice_range, sym, ap, ◌∙◌, arith, length-append, take-append-drop, add-mul}
use Rattle.silt_sorted_store.proofs.Common.{mul-le-mul_right, Shape, device_size, entry_len, StoredRow, sorted_rows, sorted_entry_at, slice_of_slice, HoldsEntries, HoldsKeys}
use Rattle.silt_sorted_store.proofs.Entries.{entry_read, key_read, part_inside}
use Rattle.silt_sorted_store.proofs.Elsewhere.{entries_inside}
use Rattle.silt_sorted_store.proofs.Rising.{key_at}

-- they lie within the device
pub chunk_inside : (shape : Shape) (region total place count at n end : ℕ) → region < 2 → total ≤ shape.sorted_capacity
    → place + count ≤ total → at ≡ sorted_entry_at shape region place → n ≡ count * entry_len shape → device_size shape ≤ end → at + n ≤ end
chunk_inside shape region total place count at n end there room within here long fits =
    let ends = entries_inside shape region there in
    let most : (place + count) * entry_len shape ≤ shape.sorted_capacity * entry_len shape = mul-le-mul_right (entry_len shape) (omega (arith, room, within)) in
    omega (arith, ends, most, add-mul place count (entry_len shape), here, long, fits)

-- and hold their keys
pub keys_read : (shape : Shape) (region total : ℕ) (image : List ℕ) (place count at n : ℕ) (bytes : List ℕ) → place + count ≤ total
    → at ≡ sorted_entry_at shape region place → n ≡ count * entry_len shape → at + n ≤ length image
    → bytes ≡ slice_range image at (at + n) → HoldsKeys (sorted_rows shape region total image) place count (entry_len shape) bytes
keys_read shape region total image place count at n bytes within here long fits read = λ i below.
    let len : ℕ = entry_len shape in
    let inside = part_inside 0 len count i n (omega (arith, long)) below in
    search (arith, slice_of_slice, key_read)

-- and the entries themselves
pub entries_read : (shape : Shape) (region total : ℕ) (image : List ℕ) (place count at n : ℕ) (bytes : List ℕ) → place + count ≤ total
    → at ≡ sorted_entry_at shape region place → n ≡ count * entry_len shape → at + n ≤ length image
    → bytes ≡ slice_range image at (at + n) → HoldsEntries (sorted_rows shape region total image) place count (entry_len shape) bytes
entries_read shape region total image place count at n bytes within here long fits read = λ i below.
    let len : ℕ = entry_len shape in
    let inside = part_inside 0 len count i n (omega (arith, long)) below in
    search (arith, slice_of_slice, entry_read)

-- a buffer that has room for `most` of them has room for fewer
pub chunk_fits : (shape : Shape) (next most len room : ℕ) → next ≤ most → len ≡ entry_len shape → most * entry_len shape ≤ room → next * len ≤ room
chunk_fits shape next most len room fewer is fits = omega (arith, mul-le-mul_right len fewer, ap (λ (n : ℕ). most * n) is, fits)

-- what is read over the front of a buffer leaves its length
pub written_back : (new old : List ℕ) (n : ℕ) → length new ≡ length (take n old) → length (new ++ drop n old) ≡ length old
written_back new old n long = cc (length-append new (drop n old), length-append (take n old) (drop n old), take-append-drop n old)

-- the front of a part
front_of_part : (bytes : List ℕ) (at len : ℕ) → 20 ≤ len → at + len ≤ length bytes → slice_range bytes at (at + 20) ≡ take 20 (slice_range bytes at (at + len))
front_of_part bytes at len least fits =
    let none : at + 0 ≡ at = omega arith in
    ap (λ n. slice_range bytes n (n + 20)) (sym none) ∙ slice_of_slice bytes at len 0 20 least fits

-- the key that begins one of the parts is that of its entry
pub key_in_part : (rows : List StoredRow) (first count len i : ℕ) (bytes key : List ℕ) → 20 ≤ len → length bytes ≡ count * len
    → i < count → HoldsKeys rows first count len bytes → key ≡ take 20 (slice_range bytes (i * len) (i * len + len))
    → key_at rows (first + i) ≡ key
key_in_part rows first count len i bytes key least long below holds is = search (arith, part_inside, front_of_part)
