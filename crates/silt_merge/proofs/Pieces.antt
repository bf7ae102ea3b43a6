-- Parts of a region that were read together, as parts of the bytes that were read.
use Rattle.silt_merge.proofs.Common.{◌≡◌, ℕ, zero, suc, ◌+◌, ◌-◌, ◌*◌, ◌<◌, ◌≤◌, List, [], ◌∷◌, ◌++◌, get_or, length, refl, sym, ap, ◌∙◌, arith, Shape, row_len, StoredRow, slot_row, AreEntries}
use Rattle.silt_merge.proofs.Common.{AreSlots, parts_from, slice_range, length-append, take-append_seam, row_of, HoldsSlots, HoldsEntries, part_inside}
use Rattle.std.proofs.lemmas.List.Edits.{length-between}
use Rattle.silt_log.proofs.Parts.{slice_of_slice}
use Rattle.silt_sorted_store.specs.OnlyRow.{HasEntry}

-- a part of a front
part_of_front : (front rest : List ℕ) (from count : ℕ) → from + count ≤ length front → slice_range (front ++ rest) from (from + count) ≡ slice_range front from (from + count)
part_of_front front rest from count inside =
    let none : 0 + from ≡ from = omega arith in
    let long : 0 + length front - 0 ≡ length front = omega arith in
    cc (slice_of_slice (front ++ rest) 0 (length front) from count inside (omega (arith, length-append front rest)), take-append_seam front rest)

-- what bytes hold of entries, they hold with others behind them
pub holds_front : (rows : List StoredRow) (place count len : ℕ) (front rest : List ℕ) → count * len ≤ length front
    → HoldsEntries rows place count len front → HoldsEntries rows place count len (front ++ rest)
holds_front rows place count len front rest long holds = λ i below.
    rw (← (part_of_front front rest (i * len) len (omega (arith, part_inside 0 len count i (length front) (omega (arith, long)) below)))) at (holds i below)

-- parts of bytes that hold entries are these
entries_from : (rows : List StoredRow) (bytes : List ℕ) (place len at count : ℕ) → ((i : ℕ) → at ≤ i → i < at + count → HasEntry rows (place + i) (slice_range bytes (i * len) (i * len + len)))
    → AreEntries rows (place + at) (parts_from bytes len at count)
entries_from rows bytes place len at zero each = tt
entries_from rows bytes place len at (suc count) each = search (arith, entries_from rows bytes place len (at + 1) count)

-- all of them
pub are_entries : (rows : List StoredRow) (bytes : List ℕ) (place len count : ℕ) → HoldsEntries rows place count len bytes → AreEntries rows place (parts_from bytes len 0 count)
are_entries rows bytes place len count holds = search (arith, entries_from)

-- there are so many parts
pub part_count : (bytes : List ℕ) (len at count : ℕ) → length (parts_from bytes len at count) ≡ count
part_count bytes len at zero = refl
part_count bytes len at (suc count) = omega (arith, part_count bytes len (at + 1) count)

-- the bytes of the first of them
pub first_part : (bytes : List ℕ) (len at count : ℕ) → 0 < count → get_or (parts_from bytes len at count) 0 [] ≡ slice_range bytes (at * len) (at * len + len)
first_part bytes len at zero some = absurd (omega arith)
first_part bytes len at (suc count) some = refl

-- it has its length
pub part_long : (bytes : List ℕ) (len at count most : ℕ) → 0 < count → at + count ≤ most → most * len ≤ length bytes → length (slice_range bytes (at * len) (at * len + len)) ≡ len
part_long bytes len at count most some within fits =
    let part = length-between bytes (at * len) (at * len + len) (omega (arith, part_inside 0 len most at (length bytes) (omega (arith, fits)) (omega (arith, some, within)))) in
    omega (arith, part)

-- the first of parts that encode entries is the entry in its place
pub first_entry : (rows : List StoredRow) (place : ℕ) (parts : List (List ℕ)) → 0 < length parts → AreEntries rows place parts → HasEntry rows place (get_or parts 0 [])
first_entry rows place [] some are = absurd (omega arith)
first_entry rows place (part ∷ parts) some are = are.0

-- ---- slots

-- what bytes hold of slots, they hold with others behind them
pub slots_front : (s : Shape) (region slot count : ℕ) (image front rest : List ℕ) → count * row_len s ≤ length front
    → HoldsSlots s region image slot count front → HoldsSlots s region image slot count (front ++ rest)
slots_front s region slot count image front rest long holds = λ i below.
    let len : ℕ = row_len s in
    holds i below ∙ ap row_of (sym (part_of_front front rest _ len (omega (arith, part_inside 0 len count i (length front) (omega (arith, long)) below))))

-- parts of bytes that hold slots are these
slots_from : (s : Shape) (region slot at count : ℕ) (image bytes : List ℕ) → slot + at + count ≤ 4 * s.buckets
    → ((i : ℕ) → at ≤ i → i < at + count → slot_row s region image (slot + i) ≡ row_of (slice_range bytes (i * row_len s) (i * row_len s + row_len s)))
    → AreSlots s region image (slot + at) (parts_from bytes (row_len s) at count)
slots_from s region slot at zero image bytes within each = tt
slots_from s region slot at (suc count) image bytes within each = search (arith, slots_from s region slot (at + 1) count image bytes)

-- all of them
pub are_slots : (s : Shape) (region slot count : ℕ) (image bytes : List ℕ) → slot + count ≤ 4 * s.buckets → HoldsSlots s region image slot count bytes
    → AreSlots s region image slot (parts_from bytes (row_len s) 0 count)
are_slots s region slot count image bytes within holds = search (arith, slots_from)

-- the first of them shows the row in its slot
pub first_slot : (s : Shape) (region slot : ℕ) (image : List ℕ) (parts : List (List ℕ)) → 0 < length parts → AreSlots s region image slot parts
    → slot_row s region image slot ≡ row_of (get_or parts 0 [])
first_slot s region slot image [] some are = absurd (omega arith)
first_slot s region slot image (part ∷ parts) some are = are.0.1

-- if the rows of the slots are the same, the parts are still their bytes
pub slots_same : (s : Shape) (region : ℕ) (old new : List ℕ) (slot : ℕ) (parts : List (List ℕ))
    → ((n : ℕ) → n < 4 * s.buckets → slot_row s region new n ≡ slot_row s region old n) → AreSlots s region old slot parts → AreSlots s region new slot parts
slots_same s region old new slot [] same are = tt
slots_same s region old new slot (part ∷ parts) same are = ((are.0.0, same slot are.0.0 ∙ are.0.1), slots_same s region old new (slot + 1) parts same are.1)

-- ---- lengths

-- a front of a buffer, as long as what is read
pub front_fits : (next len other room : ℕ) → len ≡ other → next * other ≤ room → next * len ≤ room
front_fits next len other room same fits = omega (arith, ap (λ (n : ℕ). next * n) same, fits)
