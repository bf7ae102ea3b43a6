-- What keeps a record current, for a crate above to cite.
use Rattle.silt_manifest.proofs.Common.{◌≡◌, ℕ, ◌+◌, ◌<◌, ◌≤◌, false, List, [], ◌∷◌, length, refl, ap, ◌∙◌, inl, inr, arith, slice_index, cases_eq, ChangesWithin, Content, LeavesOnly, Rests}
use Rattle.silt_manifest.proofs.Common.{Shows, Torn, Writes, size, header_of, version_of, Shape, slot_at, record_behind, is_slot_open, manifest_found, open_record, slot_of, where_found, Digests}
use Rattle.silt_manifest.proofs.Common.{IsFirst, IsCurrentIn, ManifestState, IsCurrent, current_slot, spare_slot, is_open, LiesOutside, ClosedSlotLaw, OtherRecordsLaw, OtherRegionsLaw}
use Rattle.silt_disk.proofs.Images.{torn_slice_after, torn_slice_before, rests_leaves, sized_leaves, sized_shows, within_leaves, write_shows, within_shows}
use Rattle.silt_manifest.proofs.SlotImages.{commit_written, other_same, slot_same, version_stays}
use Rattle.silt_manifest.proofs.CurrentLemmas.{found_at}

-- two slots that hold the same, and the same version
pub same_found : (s : Shape) (before after : List ℕ) → version_of (header_of after) ≡ version_of (header_of before)
    → open_record after 0 ≡ open_record before 0 → open_record after 1 ≡ open_record before 1 → manifest_found s after ≡ manifest_found s before
same_found s before after version first second = found_at s (version_of (header_of before)) after (open_record before 0) (open_record before 1) version first second

-- a change in a closed slot
pub closed_slots : ClosedSlotLaw
closed_slots s slot before after below fits torn closed still =
    let version = version_stays (slot_at slot) 4096 before after (omega arith) (omega arith) torn in
    let other = λ (r : ℕ) (slots : r + slot ≡ 1). ap record_behind (other_same r slot (slot_at slot) 4096 before after slots (omega arith) (omega arith) fits torn) in
    elim (cases_eq slot 0) [
      | inl zero ↦ same_found s before after version (cc) (other 1 (omega arith))
      | inr not_zero ↦ let one : slot ≡ 1 = omega arith in same_found s before after version (other 0 (omega arith)) (cc)
    ]

-- a change outside the slots leaves each as it is
slot_elsewhere : (at count slot : ℕ) (before after : List ℕ) → slot < 2 → slot_at 1 + 4096 ≤ length before → LiesOutside (slot_at 0) 8192 at count
    → Torn at count before after → slot_of after slot ≡ slot_of before slot
slot_elsewhere at count slot before after below fits apart torn =
    elim apart [
      | inl low ↦ slot_same at count slot before after torn (omega arith) (inl (omega arith))
      | inr high ↦ slot_same at count slot before after torn (omega arith) (inr (omega arith))
    ]

-- and so its record
pub other_records : OtherRecordsLaw
other_records slot at count before after below fits apart torn = ap record_behind (slot_elsewhere at count slot before after below fits apart torn)

-- and the finding, if the header has the same version
pub other_regions : OtherRegionsLaw
other_regions s at count before after fits apart torn version =
    same_found s before after version (other_records 0 at count before after (omega arith) fits apart torn) (other_records 1 at count before after (omega arith) fits apart torn)

-- a change outside the header and the slots lies outside the slots
outside_slots : (at count : ℕ) → LiesOutside 0 12288 at count → LiesOutside (slot_at 0) 8192 at count
outside_slots at count apart = elim apart [ inl low ↦ inl (omega arith) | inr high ↦ inr (omega arith) ]

-- it leaves the header as it is
header_elsewhere : (at count : ℕ) (before after : List ℕ) → 4096 ≤ length before → LiesOutside 0 12288 at count → Torn at count before after
    → version_of (header_of after) ≡ version_of (header_of before)
header_elsewhere at count before after fits apart torn =
    elim apart [
      | inl low ↦ ap version_of (torn_slice_after at count before after torn 0 37 low (omega arith))
      | inr high ↦ ap version_of (torn_slice_before at count before after torn 0 37 (omega arith) (omega arith))
    ]

-- the record of an image stays current under a change outside the header and the slots
current_in_elsewhere : (m : ManifestState) (n at count : ℕ) → slot_at 1 + 4096 ≤ n → LiesOutside 0 12288 at count → (before after : List ℕ)
    → (length before ≡ n) × IsCurrentIn m before → Torn at count before after → IsCurrentIn m after
current_in_elsewhere m n at count fits apart before after (size, was_current) torn =
    let room : slot_at 1 + 4096 ≤ length before = omega arith in
    let apart_too = outside_slots at count apart in
    record {
      current = ap where_found (other_regions m.shape at count before after room apart_too torn (header_elsewhere at count before after (omega arith) apart torn)) ∙ was_current.current;
      stands = other_records (current_slot m) at count before after (omega arith) room apart_too torn ∙ was_current.stands;
      spare = ap (λ bytes. is_open (slice_index bytes 0)) (slot_elsewhere at count (spare_slot m) before after (omega arith) room apart_too torn) ∙ was_current.spare;
    }

-- and in each possible crash image, under changes outside the header and the slots
pub current_record_elsewhere : (m : ManifestState) (at count : ℕ) (old new : Content) → slot_at 1 + 4096 ≤ size old
    → LiesOutside 0 12288 at count → ChangesWithin at count old new → IsCurrent m old → IsCurrent m new
current_record_elsewhere m at count old new fits apart changes is_current = within_leaves changes (sized_leaves is_current) (current_in_elsewhere m (size old) at count fits apart)

-- a slot that was closed is closed in what is shown
pub closed_shown : (slot : ℕ) (old new : Content) → slot_at slot + 461 ≤ size old → Writes (slot_at slot) (0 ∷ []) old new → Shows new (λ image. is_slot_open image slot ≡ false)
closed_shown slot old new fits writes = write_shows writes (record { holds = λ honest. refl }) (λ before (long : length before ≡ size old). ap is_open (commit_written 0 slot before (omega arith)))

-- and in each possible crash image, once nothing is pending
pub closed_leaves : (slot : ℕ) (old new : Content) → slot_at slot + 461 ≤ size old → Writes (slot_at slot) (0 ∷ []) old new → Rests new → LeavesOnly new (λ image. is_slot_open image slot ≡ false)
closed_leaves slot old new fits writes rests = rests_leaves rests (closed_shown slot old new fits writes)

-- it stays closed in what is shown under changes outside the slots
pub closed_elsewhere : (slot at count : ℕ) (old new : Content) → slot < 2 → slot_at 1 + 4096 ≤ size old → LiesOutside (slot_at 0) 8192 at count
    → ChangesWithin at count old new → Shows old (λ image. is_slot_open image slot ≡ false) → Shows new (λ image. is_slot_open image slot ≡ false)
closed_elsewhere slot at count old new below fits apart changes shown =
    within_shows changes (sized_shows shown) (λ before after (had : (length before ≡ size old) × (is_slot_open before slot ≡ false)) torn.
    ap (λ bytes. is_open (slice_index bytes 0)) (slot_elsewhere at count slot before after below (let long = had.0 in omega arith) apart torn) ∙ had.1)

-- and the first record
pub first_elsewhere : {digests : Digests} (at count : ℕ) (old new : Content) → slot_at 1 + 4096 ≤ size old → LiesOutside (slot_at 0) 8192 at count
    → ChangesWithin at count old new → LeavesOnly old (IsFirst digests) → LeavesOnly new (IsFirst digests)
first_elsewhere {digests} at count old new fits apart changes leaves = within_leaves changes (sized_leaves leaves) (λ before after (had : (length before ≡ size old) × IsFirst digests before) torn.
    let room : slot_at 1 + 4096 ≤ length before = omega arith in
    record {
      first = other_records 0 at count before after (omega arith) room apart torn ∙ had.1.first;
      second = other_records 1 at count before after (omega arith) room apart torn ∙ had.1.second;
      bytes = slot_elsewhere at count 0 before after (omega arith) room apart torn ∙ had.1.bytes;
    })
