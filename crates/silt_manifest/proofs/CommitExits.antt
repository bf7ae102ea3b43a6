-- The state at each exit of the call that opens a next record's commit byte.
use Rattle.silt_manifest.proofs.Common.{◌≡◌, ℕ, ◌+◌, ◌%◌, ◌≤◌, inl, inr, true, false, List, [], ◌∷◌, length, get_or, slice_range, slice_index, Some, sym, ap, ◌∙◌, arith, cases_Bool, Content}
use Rattle.silt_manifest.proofs.Common.{LeavesOnly, Torn, ChangesWithin, Writes, Rests, size, splice, header_of, version_of, slot_at, is_open, FitsSlot, FitsDigests, long_record, record_bytes}
use Rattle.silt_manifest.proofs.Common.{slot_of, is_slot_open, record_behind, open_record, current_manifest, ManifestState, IsNext, IsPrepared, IsCurrentIn, IsReady, IsCurrent, with_current}
use Rattle.silt_manifest.proofs.Common.{current_record, current_slot, spare_slot, Body, Digests, SlotRecord, OldOrNewIsCurrent}
use Rattle.silt_disk.proofs.Images.{within_leaves, write_shows, rests_leaves, leaves_shows, sized_leaves, sized_shows, torn_splice, torn_slice_after}
use Rattle.silt_manifest.proofs.DigestTrip.{record_law}
use Rattle.silt_manifest.proofs.SlotImages.{slot_parts, closed_record, opened_record, other_same, commit_written, version_stays}
use Rattle.silt_manifest.proofs.SoundBodies.{long_sound}
use Rattle.silt_manifest.proofs.CurrentLemmas.{newer_is_current, current_is_sound, stays_current}
use Rattle.silt_manifest.proofs.PrepareExits.{two_slots}

-- an open slot with these bytes holds the record
pub holds_record : (image : List ℕ) (slot : ℕ) (b : Body) (d : Digests) → slot_at slot + 461 ≤ length image → FitsSlot b → FitsDigests d
    → is_slot_open image slot ≡ true → slice_range image (slot_at slot + 1) (slot_at slot + 461) ≡ record_bytes b d → open_record image slot ≡ Some (long_record b d)
holds_record image slot b d room fits fits_digests opened bytes =
    cc (slot_parts image slot room, opened_record (slot_of image slot) opened, record_law b d (get_or image (slot_at slot) 0) fits fits_digests)

-- a slot that holds a record is open
pub holds_open : (bytes : List ℕ) (b : SlotRecord) → record_behind bytes ≡ Some b → is_open (slice_index bytes 0) ≡ true
holds_open bytes b holds = grind (arith, cases_Bool, closed_record)

module _ (m : ManifestState) (next : Body) (digests : Digests) (n : ℕ) (fits : slot_at 1 + 4096 ≤ n) (follows : IsNext m next) (held : FitsSlot next) (held_digests : FitsDigests digests) where
  -- the current slot stays when the commit byte is written
  current_stays : (before after : List ℕ) → (length before ≡ n) × IsReady m next digests before → Torn (slot_at (spare_slot m)) 1 before after
      → open_record after (current_slot m) ≡ open_record before (current_slot m)
  current_stays before after (size, ready) torn =
      ap record_behind (other_same (current_slot m) (spare_slot m) (slot_at (spare_slot m)) 1 before after (omega arith) (omega arith) (omega arith) (omega arith) torn)

  -- so does the version
  same_version : (before after : List ℕ) → (length before ≡ n) × IsReady m next digests before → Torn (slot_at (spare_slot m)) 1 before after
      → version_of (header_of after) ≡ version_of (header_of before)
  same_version before after (size, ready) torn = version_stays (slot_at (spare_slot m)) 1 before after (omega arith) (omega arith) torn

  -- with an open commit byte the next record is current
  new_record_is_current : (before after : List ℕ) → (length before ≡ n) × IsReady m next digests before → Torn (slot_at (spare_slot m)) 1 before after
      → is_slot_open after (spare_slot m) ≡ true → (open_record after (spare_slot m) ≡ Some (long_record next digests)) × (current_manifest m.shape after ≡ Some (long_record next digests))
  new_record_is_current before after was torn opened =
      let slots = two_slots m in
      let ready = was.1 in
      let room : slot_at (spare_slot m) + 461 ≤ length after = omega (arith, torn.size) in
      let bytes : slice_range after (slot_at (spare_slot m) + 1) (slot_at (spare_slot m) + 461) ≡ record_bytes next digests =
      torn_slice_after (slot_at (spare_slot m)) 1 before after torn (slot_at (spare_slot m) + 1) (slot_at (spare_slot m) + 461) (omega arith) (omega arith) ∙ ready.bytes in
      let holds : open_record after (spare_slot m) ≡ Some (long_record next digests) = holds_record after (spare_slot m) next digests room held held_digests opened bytes in (
        holds,
        newer_is_current m.shape (version_of (header_of before)) (current_slot m) (spare_slot m) (current_record m) (long_record next digests) after
            (same_version before after was torn) slots (current_is_sound m.shape (current_slot m) (spare_slot m) (current_record m) before slots ready.stands
            ready.current) (search (arith, long_sound)) follows.generation (current_stays before after was torn ∙ ready.stands) holds,
      )

  -- the commit byte may be written or not
  old_or_new : m.prepared ≡ Some (long_record next digests) → (before after : List ℕ) → (length before ≡ n) × IsReady m next digests before
      → Torn (slot_at (spare_slot m)) 1 before after → OldOrNewIsCurrent m after
  old_or_new prepared before after was torn =
      let slots = two_slots m in
      elim (cases_Bool (is_slot_open after (spare_slot m))) [
        | inl opened ↦ inr ((new_record_is_current before after was torn opened).1 ∙ sym prepared)
        | inr closed ↦
            inl (stays_current m.shape (current_slot m) (spare_slot m) (current_record m) before after (same_version before after was torn) slots was.1.stands
            was.1.current (current_stays before after was torn) (inl (closed_record (slot_of after (spare_slot m)) closed)))
      ]

  -- the commit byte is written
  new_is_current_in : (before : List ℕ) → (length before ≡ n) × IsReady m next digests before
      → IsCurrentIn (with_current m.shape (long_record next digests) false) (splice (slot_at (spare_slot m)) (167 ∷ []) before)
  new_is_current_in before was =
      let slots = two_slots m in
      let after = splice (slot_at (spare_slot m)) (167 ∷ []) before in
      let torn : Torn (slot_at (spare_slot m)) 1 before after = torn_splice (slot_at (spare_slot m)) (167 ∷ []) before (omega arith) in
      let opened : is_slot_open after (spare_slot m) ≡ true = ap is_open (commit_written 167 (spare_slot m) before (omega arith)) in
      let both = new_record_is_current before after was torn opened in
      let own : next.generation % 2 ≡ spare_slot m = ap (λ (k : ℕ). k % 2) follows.generation in
      let other : (next.generation + 1) % 2 ≡ current_slot m = omega (arith, follows.generation) in
      record {
        current = both.1;
        stands = ap (open_record after) own ∙ both.0;
        spare = ap (is_slot_open after) other ∙ holds_open (slot_of after (current_slot m)) (current_record m) (current_stays before after was torn ∙ was.1.stands);
      }

-- the write or the sync fails
pub commit_fails : (m : ManifestState) (next : Body) (digests : Digests) (old new : Content) (at : ℕ) → slot_at 1 + 4096 ≤ size old
    → IsPrepared m next digests old → at ≡ slot_at (spare_slot m) → ChangesWithin at 1 old new → LeavesOnly new (OldOrNewIsCurrent m)
commit_fails m next digests old new at fits prepared is changes =
    let here : ChangesWithin (slot_at (spare_slot m)) 1 old new = rw is at changes in
    within_leaves here (sized_leaves prepared.leaves) (old_or_new m next digests (size old) fits prepared.follows prepared.fits prepared.fits_digests prepared.is)

-- the commit byte is open
pub all_committed : (m : ManifestState) (next : Body) (digests : Digests) (old new : Content) (at : ℕ) → slot_at 1 + 4096 ≤ size old
    → IsPrepared m next digests old → at ≡ slot_at (spare_slot m) → Writes at (167 ∷ []) old new → Rests new → IsCurrent (with_current m.shape (long_record next digests) false) new
all_committed m next digests old new at fits prepared is writes rests =
    let here : Writes (slot_at (spare_slot m)) (167 ∷ []) old new = rw is at writes in
    rests_leaves rests (write_shows here (sized_shows (leaves_shows prepared.leaves)) (new_is_current_in m next _ _ fits prepared.follows prepared.fits prepared.fits_digests))
