-- The state at each exit of the write of a next body.
use Rattle.silt_manifest.proofs.Common.{◌≡◌, ℕ, ◌+◌, ◌≤◌, inl, inr, true, false, not, List, [], ◌∷◌, length, slice_index, Option, Some, refl, ap, ◌∙◌, arith, cases_Bool, Content, LeavesOnly, Torn}
use Rattle.silt_manifest.proofs.Common.{ChangesWithin, Writes, Rests, size, splice, Shape, slot_at, is_open, FitsSlot, FitsDigests, long_record, record_bytes, slot_of, is_slot_open, record_behind}
use Rattle.silt_manifest.proofs.Common.{open_record, ManifestState, IsNext, IsPrepared, IsCurrentIn, IsReady, IsCurrent, current_record, current_slot, spare_slot, Body, Digests, RecordIsCurrent}
use Rattle.silt_manifest.proofs.Common.{WritesNext, closing_place}
use Rattle.silt_disk.proofs.Images.{within_leaves, write_shows, rests_leaves, leaves_shows, sized_leaves, sized_shows, torn_splice, splice_slice, weaker_leaves}
use Rattle.silt_manifest.proofs.SlotImages.{closed_record, slot_same, other_same, commit_torn, commit_stays, commit_written, version_stays}
use Rattle.silt_manifest.proofs.CurrentLemmas.{stays_current}

-- the two slots are 0 and 1
pub two_slots : (m : ManifestState) → current_slot m + spare_slot m ≡ 1
two_slots m = omega arith

-- in an image of this length: the record is current as before, and the other slot is closed
pub record IsShut (m : ManifestState) (n : ℕ) (image : List ℕ) : Type 0 where
  pub size : length image ≡ n
  pub current : RecordIsCurrent m image
  pub stands : open_record image (current_slot m) ≡ Some (current_record m)
  pub shut : is_slot_open image (spare_slot m) ≡ false

module _ (m : ManifestState) (n : ℕ) (fits : slot_at 1 + 4096 ≤ n) where
  -- the zero may be done, done in part or not done
  close_torn : (place : ℕ) → place ≡ closing_place m → (before after : List ℕ) → (length before ≡ n) × IsCurrentIn m before → Torn place 1 before after → RecordIsCurrent m after
  close_torn place is before after (size, was_current) torn =
      let stays = stays_current m.shape (current_slot m) (spare_slot m) (current_record m) before after in
      elim (cases_Bool m.spare_closed) [
        | inl closed ↦
            let at : place ≡ slot_at (spare_slot m) + 4095 = rw closed at is in
            stays (version_stays place 1 before after (omega arith) (omega arith) torn) (two_slots m) was_current.stands was_current.current
            (ap record_behind (other_same (current_slot m) (spare_slot m) place 1 before after (two_slots m) (omega arith) (omega arith) (omega arith) torn))
            (inr (ap record_behind (slot_same place 1 (spare_slot m) before after torn (omega arith) (inr (omega arith)))))
        | inr opened ↦
            let at : place ≡ slot_at (spare_slot m) = rw opened at is in
            stays (version_stays place 1 before after (omega arith) (omega arith) torn) (two_slots m) was_current.stands was_current.current
            (ap record_behind (other_same (current_slot m) (spare_slot m) place 1 before after (two_slots m) (omega arith) (omega arith) (omega arith) torn))
            (commit_torn (spare_slot m) before after (omega arith) (rw at at torn) (was_current.spare ∙ ap not opened))
      ]

  -- the zero is done
  close_written : (place : ℕ) → place ≡ closing_place m → (before : List ℕ) → (length before ≡ n) × IsCurrentIn m before → IsShut m n (splice place (0 ∷ []) before)
  close_written place is before (size, was_current) =
      let slots = two_slots m in
      let after = splice place (0 ∷ []) before in
      elim (cases_Bool m.spare_closed) [
        | inl closed ↦
            let at : place ≡ slot_at (spare_slot m) + 4095 = rw closed at is in
            let torn : Torn place 1 before after = torn_splice place (0 ∷ []) before (omega arith) in
            record {
              size = torn.size ∙ size;
              current = close_torn place is before after (size, was_current) torn;
              stands = ap record_behind (other_same (current_slot m) (spare_slot m) place 1 before after slots (omega arith) (omega arith) (omega arith) torn) ∙ was_current.stands;
              shut = cc (slot_same place 1 (spare_slot m) before after torn (omega arith) (inr (omega arith)), was_current.spare);
            }
        | inr opened ↦
            let at : place ≡ slot_at (spare_slot m) = rw opened at is in
            let torn : Torn place 1 before after = torn_splice place (0 ∷ []) before (omega arith) in
            record {
              size = torn.size ∙ size;
              current = close_torn place is before after (size, was_current) torn;
              stands = ap record_behind (other_same (current_slot m) (spare_slot m) place 1 before after slots (omega arith) (omega arith) (omega arith) torn) ∙ was_current.stands;
              shut = ap is_open (ap (λ (p : ℕ). slice_index (slot_of (splice p (0 ∷ []) before) (spare_slot m)) 0) at ∙ commit_written 0 (spare_slot m) before (omega arith));
            }
      ]

  -- the bytes may be written, or a part of it, behind a closed commit byte
  bytes_torn : (at count : ℕ) → at ≡ slot_at (spare_slot m) + 1 → count ≡ 460 → (before after : List ℕ) → IsShut m n before → Torn at count before after → IsShut m n after
  bytes_torn at count is long before after was torn =
      let slots = two_slots m in
      let same : open_record after (current_slot m) ≡ open_record before (current_slot m) =
      ap record_behind (other_same (current_slot m) (spare_slot m) at count before after slots (omega arith) (omega arith) (omega arith) torn) in
      let shut : is_slot_open after (spare_slot m) ≡ false = commit_stays at count (spare_slot m) before after (omega arith) (omega arith) torn ∙ was.shut in
      record {
        size = torn.size ∙ was.size;
        current = stays_current m.shape (current_slot m) (spare_slot m) (current_record m) before after (version_stays at count before after (omega arith)
            (omega arith) torn) slots was.stands was.current same (inl (closed_record (slot_of after (spare_slot m)) shut));
        stands = same ∙ was.stands;
        shut = shut;
      }

  -- the bytes are written
  bytes_written : (at : ℕ) (bytes : List ℕ) (next : Body) (digests : Digests) → at ≡ slot_at (spare_slot m) + 1 → length bytes ≡ 460
      → bytes ≡ record_bytes next digests → (before : List ℕ) → IsShut m n before → IsReady m next digests (splice at bytes before)
  bytes_written at bytes next digests is long bytes_are before was =
      let slots = two_slots m in
      let room : at + length bytes ≤ length before = omega arith in
      let after = splice at bytes before in
      let now = bytes_torn at (length bytes) is long before after was (torn_splice at bytes before room) in
      let end : at + length bytes ≡ slot_at (spare_slot m) + 461 = omega arith in
      record {
        current = now.current;
        stands = now.stands;
        spare = now.shut;
        bytes = cc (splice_slice at bytes before room);
      }

-- the first write or sync fails
pub close_fails : (m : ManifestState) (place : ℕ) (old new : Content) → slot_at 1 + 4096 ≤ size old → IsCurrent m old
    → place ≡ closing_place m → ChangesWithin place 1 old new → LeavesOnly new (RecordIsCurrent m)
close_fails m place old new fits is_current is changes = within_leaves changes (sized_leaves is_current) (close_torn m (size old) fits place is)

-- the other slot is closed
shut_leaves : (m : ManifestState) (place : ℕ) (old between : Content) → slot_at 1 + 4096 ≤ size old → IsCurrent m old
    → place ≡ closing_place m → Writes place (0 ∷ []) old between → Rests between → LeavesOnly between (IsShut m (size old))
shut_leaves m place old between fits is_current is writes rests = rests_leaves rests (write_shows writes (sized_shows (leaves_shows is_current)) (close_written m (size old) fits place is))

-- the second write or sync fails
pub bytes_fail : (m : ManifestState) (place at count : ℕ) (old between new : Content) → slot_at 1 + 4096 ≤ size old → IsCurrent m old → place ≡ closing_place m → at ≡ slot_at (spare_slot m) + 1
    → count ≡ 460 → Writes place (0 ∷ []) old between → Rests between → ChangesWithin at count between new → LeavesOnly new (RecordIsCurrent m)
bytes_fail m place at count old between new fits is_current is is_at long writes rests changes =
    weaker_leaves (within_leaves changes (shut_leaves m place old between fits is_current is writes rests) (bytes_torn m (size old) fits at count is_at long)) (λ image now. now.current)

-- all is written
pub all_prepared : (m : ManifestState) (place at : ℕ) (bytes : List ℕ) (next : Body) (digests : Digests) (old between new : Content)
    → slot_at 1 + 4096 ≤ size old → IsCurrent m old → place ≡ closing_place m → at ≡ slot_at (spare_slot m) + 1 → length bytes ≡ 460
    → bytes ≡ record_bytes next digests → Writes place (0 ∷ []) old between → Rests between → Writes at bytes between new → Rests new → LeavesOnly new (IsReady m next digests)
all_prepared m place at bytes next digests old between new fits is_current is is_at long bytes_are first rests second rests_too =
    rests_leaves rests_too (write_shows second (leaves_shows (shut_leaves m place old between fits is_current is first rests))
    (bytes_written m (size old) fits at bytes next digests is_at long bytes_are))

-- what is then shown
pub next_written : (m : ManifestState) (place at : ℕ) (bytes : List ℕ) (next : Body) (digests : Digests) (old between new : Content) → place ≡ closing_place m → at ≡ slot_at (spare_slot m) + 1
    → bytes ≡ record_bytes next digests → Writes place (0 ∷ []) old between → Writes at bytes between new → WritesNext m next digests old new
next_written m place at bytes next digests old between new is is_at are first second = grind (arith, second.shown, first.shown)

-- the manifest with the next record, of this shape and with this current record, is prepared
pub prepared_state : (m : ManifestState) (shape : Shape) (current next : Body) (held : Option Digests) (digests : Digests) (content : Content)
    → m.shape ≡ shape → m.current ≡ current → m.digests ≡ held → IsNext m next → FitsSlot next → FitsDigests digests → LeavesOnly content (IsReady m next digests)
    → IsPrepared (record { shape = shape; current = current; digests = held; spare_closed = true; prepared = Some (long_record next digests) }) next digests content
prepared_state m shape current next held digests content same_shape same_current same_digests follows fits fits_digests leaves = rw (← same_shape, ← same_current, ← same_digests) (record {
  is = refl;
  closed = refl;
  follows = search arith;
  fits = fits;
  fits_digests = fits_digests;
  leaves = weaker_leaves leaves (λ image ready. search arith);
})
