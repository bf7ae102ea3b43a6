-- The bytes of the rows in slots, as a hasher is fed them.
use Rattle.silt_hash_store.proofs.Common.{◌≡◌, ℕ, zero, suc, ◌+◌, ◌*◌, ◌≤◌, ◌<◌, Result, Ok, Err, OnOk, List, [], ◌++◌, length, take, drop, slice_range, refl, sym, subst, ap, ◌∙◌, arith}
use Rattle.silt_hash_store.proofs.Common.{append_assoc, append-nil, take_all, length-between, add-mul, Holds, Shape, hash_at, row_len, slots_len, StoredRow, row_bytes, rows_bytes}
use Rattle.silt_hash_store.proofs.Common.{HashBytesLaw, IsFed, HoldsSlots, slot_row, HashState, body_before}
use Rattle.std.proofs.Math.Seq.{take-add}
use Rattle.sha1.specs.declared.Sha1.{Sha1}
use Rattle.silt_frame.proofs.RowBytes.{row_bytes_of, rows_bytes_more}
use Rattle.silt_hash_store.specs.Slots.{rows_before}
use Rattle.silt_hash_store.proofs.Reading.{slots_read}
use Rattle.silt_hash_store.proofs.Slotting.{all_before, before_more}

-- there are no rows before the first slot
none_before : (s : Shape) (region : ℕ) (image : List ℕ) → rows_before s region image 0 ≡ []
unfolding rows_before
none_before s region image = refl

-- ---- slots that were read together

module _ (s : Shape) (region first count : ℕ) (image bytes : List ℕ) (holds : HoldsSlots s region image first count bytes) (long : length bytes ≡ count * row_len s) where
  abbrev len : ℕ
  len = row_len s

  abbrev front : List ℕ
  front = rows_bytes (rows_before s region image first)

  -- the bytes of one of them
  bytes_at : (i : ℕ) → i < count → row_bytes (slot_row s region image (first + i)) ≡ take len (drop (i * len) bytes)
  bytes_at i below =
      ap row_bytes (holds i below)
      ∙ row_bytes_of _ (omega (arith, length-between bytes (i * len) (i * len + len) (omega (arith, body_before 0 len i count below, long))))
      ∙ ap (λ (n : ℕ). take n (drop (i * len) bytes)) (omega arith)

  -- the bytes of the first of them
  bytes_before : (n : ℕ) → n ≤ count → rows_bytes (rows_before s region image (first + n)) ≡ front ++ take (n * len) bytes
  bytes_before zero most = search (arith, append-nil)
  bytes_before (suc n) most =
      let row : List ℕ = row_bytes (slot_row s region image (first + n)) in
      let further : first + suc n ≡ first + n + 1 = omega arith in
      let one : suc n ≡ n + 1 = omega arith in
      let next : n * len + len ≡ suc n * len = omega (arith, add-mul n 1 len, ap (λ (k : ℕ). k * len) one) in
      cc (
        before_more s region image (first + n),
        rows_bytes_more (rows_before s region image (first + n)) (slot_row s region image (first + n)),
        bytes_before n (omega arith),
        append_assoc front (take (n * len) bytes) row,
        bytes_at n (omega arith),
        take-add (n * len) len bytes,
      )

  -- the bytes of all of them are those that were read
  pub bytes_read : rows_bytes (rows_before s region image (first + count)) ≡ front ++ bytes
  bytes_read = bytes_before count (omega arith) ∙ ap (λ (l : List ℕ). front ++ l) (take_all (count * len) bytes (omega (arith, long)))

-- the bytes of all slots are those of the region
pub hash_bytes : HashBytesLaw
hash_bytes s region image fits =
    let at : ℕ = hash_at s region in
    let bytes : List ℕ = slice_range image at (at + slots_len s) in
    let here : at ≡ at + 0 * row_len s = omega arith in
    let long : length bytes ≡ 4 * s.buckets * row_len s = omega (arith, length-between image at (at + slots_len s) fits) in
    let holds : HoldsSlots s region image 0 (4 * s.buckets) bytes = slots_read s region 0 _ at (slots_len s) image bytes here refl fits refl in
    let number : 4 * s.buckets ≡ 0 + 4 * s.buckets = omega arith in
    cc (all_before s region image, bytes_read s region 0 (4 * s.buckets) image bytes holds long, none_before s region image)

-- ---- a hasher

-- one that was fed nothing
pub none_fed : (hasher : Sha1) (store : HashState) (image : List ℕ) → Holds hasher [] → IsFed hasher store image 0
none_fed hasher store image holds = subst (λ (rows : List StoredRow). Holds hasher (rows_bytes rows)) (sym (none_before store.shape store.region image)) holds

-- one that was fed what was read
pub more_fed : (hasher : Sha1) (store : HashState) (first count : ℕ) (image bytes : List ℕ) → HoldsSlots store.shape store.region image first count bytes → length bytes ≡ count * row_len store.shape
    → Holds hasher (rows_bytes (rows_before store.shape store.region image first) ++ bytes) → IsFed hasher store image (first + count)
more_fed hasher store first count image bytes holds long fed = subst (λ (l : List ℕ). Holds hasher l) (sym (bytes_read store.shape store.region first count image bytes holds long)) fed

-- what holds anyway holds if a call succeeds
pub ends_well : {X E : Type 0} (result : Result X E) (P : Type 0) → P → OnOk result P
ends_well (Ok x) P holds = holds
ends_well (Err e) P holds = tt
