-- What a change in one slot leaves of the slots.
use Rattle.silt_manifest.proofs.Common.{◌≡◌, ℕ, ◌+◌, ◌-◌, ◌<◌, ◌≤◌, ◌⊎◌, inl, inr, true, false, List, [], ◌∷◌, length, get_or, slice_range, slice_index, Some, None, refl, ap, arith, cases_Bool}
use Rattle.silt_manifest.proofs.Common.{cases_eq, nat_tests, Torn, splice, header_of, version_of, slot_at, is_open, record_of, slot_of, is_slot_open, open_record, drop_more}
use Rattle.silt_disk.proofs.Images.{torn_slice_before, torn_slice_after, torn_splice, splice_byte}
use Rattle.silt_manifest.specs.Current.{record_behind}

-- a slot is its commit byte and the bytes behind it
pub slot_parts : (image : List ℕ) (slot : ℕ) → slot_at slot + 461 ≤ length image → slot_of image slot ≡ get_or image (slot_at slot) 0 ∷ slice_range image (slot_at slot + 1) (slot_at slot + 461)
slot_parts image slot fits =
    let long : slot_at slot + 461 - slot_at slot ≡ 461 = omega arith in
    let rest : slot_at slot + 461 - (slot_at slot + 1) ≡ 460 = omega arith in
    cc (drop_more image (slot_at slot) 0 (omega arith))

-- its first byte is the commit byte
pub commit_of : (image : List ℕ) (slot : ℕ) → slot_at slot + 461 ≤ length image → slice_index (slot_of image slot) 0 ≡ get_or image (slot_at slot) 0
commit_of image slot fits = ap (λ bytes. slice_index bytes 0) (slot_parts image slot fits)

-- an open commit byte is 0xA7
pub open_commit : (commit : ℕ) → is_open commit ≡ true → commit ≡ 167
open_commit commit opened = grind (arith, nat_tests)

-- a closed slot holds nothing that counts
pub closed_record : (bytes : List ℕ) → is_open (slice_index bytes 0) ≡ false → record_behind bytes ≡ None
unfolding record_behind
closed_record bytes closed = rw closed refl

-- an open one holds its record
pub opened_record : (bytes : List ℕ) → is_open (slice_index bytes 0) ≡ true → record_behind bytes ≡ Some (record_of bytes)
unfolding record_behind
opened_record bytes opened = rw opened refl

-- a change before or behind a slot's bytes
pub slot_same : (at count slot : ℕ) (before after : List ℕ) → Torn at count before after → slot_at slot + 461 ≤ length before
    → (at + count ≤ slot_at slot) ⊎ (slot_at slot + 461 ≤ at) → slot_of after slot ≡ slot_of before slot
slot_same at count slot before after torn fits apart =
    elim apart [
      | inl below ↦ torn_slice_after at count before after torn (slot_at slot) (slot_at slot + 461) below fits
      | inr above ↦ torn_slice_before at count before after torn (slot_at slot) (slot_at slot + 461) above fits
    ]

-- a change in the one slot leaves the other as it is
pub other_same : (r o at count : ℕ) (before after : List ℕ) → r + o ≡ 1 → slot_at o ≤ at → at + count ≤ slot_at o + 4096
    → slot_at 1 + 4096 ≤ length before → Torn at count before after → slot_of after r ≡ slot_of before r
other_same r o at count before after slots low high fits torn = slot_same at count r before after torn (omega arith) (search (arith, cases_eq))

-- a torn commit byte of an open slot: the slot is closed now, or as it was
pub commit_torn : (slot : ℕ) (before after : List ℕ) → slot_at slot + 461 ≤ length before → Torn (slot_at slot) 1 before after
    → is_slot_open before slot ≡ true → (open_record after slot ≡ None) ⊎ (open_record after slot ≡ open_record before slot)
commit_torn slot before after fits torn opened =
    let fits_after : slot_at slot + 461 ≤ length after = omega (arith, torn.size) in
    let behind : slice_range after (slot_at slot + 1) (slot_at slot + 461) ≡ slice_range before (slot_at slot + 1) (slot_at slot + 461) =
    torn_slice_after (slot_at slot) 1 before after torn (slot_at slot + 1) (slot_at slot + 461) (omega arith) fits in
    search (arith, commit_of, open_commit, cases_Bool, slot_parts, closed_record)

-- a commit byte that is not in the range stays
pub commit_stays : (at count slot : ℕ) (before after : List ℕ) → slot_at slot < at → slot_at slot + 461 ≤ length before → Torn at count before after
    → is_slot_open after slot ≡ is_slot_open before slot
commit_stays at count slot before after behind fits torn = grind (arith, commit_of, torn.before)

-- the commit byte is the byte that was written there
pub commit_written : (commit slot : ℕ) (before : List ℕ) → slot_at slot + 461 ≤ length before → slice_index (slot_of (splice (slot_at slot) (commit ∷ []) before) slot) 0 ≡ commit
commit_written commit slot before fits =
    let torn = torn_splice (slot_at slot) (commit ∷ []) before (omega arith) in
    let place : slot_at slot ≡ slot_at slot + 0 = omega arith in
    cc (commit_of (splice (slot_at slot) (commit ∷ []) before) slot (omega (arith, torn.size)), splice_byte (slot_at slot) (commit ∷ []) before 0 (omega arith) (omega arith))

-- a change in a slot leaves the version in the header
pub version_stays : (at count : ℕ) (before after : List ℕ) → 4096 ≤ at → 4096 ≤ length before → Torn at count before after → version_of (header_of after) ≡ version_of (header_of before)
version_stays at count before after behind fits torn = ap version_of (torn_slice_before at count before after torn 0 37 (omega arith) (omega arith))
