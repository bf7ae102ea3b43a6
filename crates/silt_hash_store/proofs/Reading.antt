-- What reads and writes of a slot give, and which slots a write leaves.
use Rattle.silt_hash_store.proofs.Common.{◌≡◌, ◌≢◌, ℕ, ◌+◌, ◌*◌, ◌≤◌, ◌<◌, inl, inr, IsTrue, List, length, take, drop, get_or, slice_range, sym, ap, ◌∙◌, arith, cases_lt, add-mul}
use Rattle.silt_hash_store.proofs.Common.{mul-le-mul_right, Content, Torn, Writes, size, Shape, hash_at, row_len, row_of, body_before, HeadSays, HoldsSlots, hash_slot_at, Head}
use Rattle.silt_disk.proofs.Images.{splice_slice, torn_slice_after, torn_slice_before}
use Rattle.silt_log.proofs.Parts.{slice_of_slice, slice_to_end}
use Rattle.silt_hash_store.specs.Slots.{slot_row}

-- a slot lies within its region
pub slot_inside : (s : Shape) (region slot end : ℕ) → hash_at s region + 4 * s.buckets * row_len s ≤ end → slot < 4 * s.buckets → hash_slot_at s region slot + row_len s ≤ end
slot_inside s region slot end fits below = let inside = body_before (hash_at s region) (row_len s) slot (4 * s.buckets) below in omega (arith, inside, fits)

-- a head that was read is that of the row in the slot
pub head_read : (s : Shape) (region slot at : ℕ) (image head : List ℕ) (said : Head) → at ≡ hash_slot_at s region slot → at + row_len s ≤ length image → head ≡ slice_range image at (at + 21)
    → HeadSays (get_or head 0 0) (drop 1 head) said → HeadSays (slot_row s region image slot).kind (slot_row s region image slot).key said
unfolding slot_row
head_read s region slot at image head said same fits read says =
    let len : ℕ = row_len s in
    let body : List ℕ = slice_range image at (at + len) in
    let long : 21 ≤ len = omega arith in
    let front : head ≡ slice_range body 0 21 = read ∙ ap (λ n. slice_range image n (n + 21)) (omega arith) ∙ slice_of_slice image at len 0 21 long fits in
    search arith

-- the head of a front that was read is that of the row in the slot
pub front_read : (s : Shape) (region slot at count : ℕ) (image bytes head : List ℕ) (said : Head) → at ≡ hash_slot_at s region slot → at + row_len s ≤ length image → 21 ≤ count → count ≤ row_len s
    → bytes ≡ slice_range image at (at + count) → head ≡ take 21 bytes → HeadSays (get_or head 0 0) (drop 1 head) said
    → HeadSays (slot_row s region image slot).kind (slot_row s region image slot).key said
front_read s region slot at count image bytes head said same fits least most read front says =
    let part : slice_range image at (at + 21) ≡ take 21 (slice_range image at (at + count)) =
    ap (λ n. slice_range image n (n + 21)) (omega arith) ∙ slice_of_slice image at count 0 21 least (omega (arith, most, fits)) in
    head_read s region slot at image head said same fits (front ∙ ap (take 21) read ∙ sym part) says

-- and the value follows the head of a whole row
pub front_value : (s : Shape) (region slot at count : ℕ) (image bytes : List ℕ) → at ≡ hash_slot_at s region slot → count ≡ row_len s
    → bytes ≡ slice_range image at (at + count) → drop 21 bytes ≡ (slot_row s region image slot).value
unfolding slot_row
front_value s region slot at count image bytes same whole read = cc

-- a value that was read is that of the row in the slot
pub value_read : (s : Shape) (region slot at count : ℕ) (image bytes : List ℕ) → at ≡ hash_slot_at s region slot → at + row_len s ≤ length image → count ≡ s.value_len
    → bytes ≡ slice_range image (at + 21) (at + 21 + count) → bytes ≡ (slot_row s region image slot).value
unfolding slot_row
value_read s region slot at count image bytes here fits long read = grind (arith, slice_to_end)

-- slots that are read together lie within the device
pub slots_within : (s : Shape) (region slot count at n end : ℕ) → hash_at s region + 4 * s.buckets * row_len s ≤ end
    → slot + count ≤ 4 * s.buckets → at ≡ hash_slot_at s region slot → n ≡ count * row_len s → at + n ≤ end
slots_within s region slot count at n end fits within here long = omega (arith, fits, mul-le-mul_right (row_len s) within, add-mul slot count (row_len s), here, long)

-- and hold their rows
pub slots_read : (s : Shape) (region slot count at n : ℕ) (image bytes : List ℕ) → at ≡ hash_slot_at s region slot → n ≡ count * row_len s
    → at + n ≤ length image → bytes ≡ slice_range image at (at + n) → HoldsSlots s region image slot count bytes
unfolding slot_row
slots_read s region slot count at n image bytes here long fits read = grind (arith, slice_of_slice)

-- a slot that was written shows the row of its bytes
pub slot_written : (s : Shape) (region slot at : ℕ) (bytes : List ℕ) (old new : Content) → at ≡ hash_slot_at s region slot
    → length bytes ≡ row_len s → at + row_len s ≤ size old → Writes at bytes old new
    → IsTrue old.honest → slot_row s region new.shown slot ≡ row_of bytes
unfolding slot_row
slot_written s region slot at bytes old new same long fits writes honest = grind (arith, splice_slice)

-- a write of a slot leaves the other slots
pub slot_elsewhere : (s : Shape) (region slot other : ℕ) (old new : List ℕ) → hash_at s region + 4 * s.buckets * row_len s ≤ length old → slot < 4 * s.buckets → other < 4 * s.buckets → other ≢ slot
    → Torn (hash_slot_at s region slot) (row_len s) old new → slot_row s region new other ≡ slot_row s region old other
unfolding slot_row
slot_elsewhere s region slot other old new fits there below apart torn =
    let inside = slot_inside s region other (length old) fits below in
    elim (cases_lt other slot) [
      | inl before ↦
          let ends = body_before (hash_at s region) (row_len s) other slot before in
          ap row_of (torn_slice_before _ _ old new torn (hash_slot_at s region other) (hash_slot_at s region other + row_len s) (omega (arith, ends)) inside)
      | inr after ↦
          let behind : slot < other = omega (arith, after, apart) in
          let begins = body_before (hash_at s region) (row_len s) slot other behind in
          ap row_of (torn_slice_after _ _ old new torn (hash_slot_at s region other) (hash_slot_at s region other + row_len s) (omega (arith, begins)) inside)
    ]
