-- What formatting writes is what an opening reads.
use Rattle.silt_recovery.proofs.Common.{◌≡◌, ◌≤◌, ◌<◌, ℕ, ◌+◌, IsTrue, List, [], ◌∷◌, ◌++◌, length, drop, false, Ok, inl, inr, ap, sym, ◌∙◌, subst, arith, Content, Torn, ChangesWithin, Writes}
use Rattle.silt_recovery.proofs.Common.{LeavesOnly, Rests, size, Shape, InLimits, device_size, commits_at, slot_at, header_bytes, header_of, entries_digest, shape_found, log_rows, Digests, ◌-◌}
use Rattle.silt_recovery.proofs.Common.{slice_range, take-add, drop-drop, splice, StandsFor, log_rows_elsewhere, is_slot_open, IsFirst, closed_shown, closed_elsewhere, first_elsewhere, empty_law}
use Rattle.silt_disk.proofs.Images.{left_at_rest, splice_slice, torn_splice, length-splice, torn_slice_after, shown_left, rests_leaves}
use Rattle.std.specs.FinMap.{empty}
use Rattle.silt_manifest.proofs.FirstExits.{first_is_current}
use Rattle.silt_image.proofs.Headers.{formatted_law}

-- a part and the one behind it
pub slice_join : (xs : List ℕ) (a b c : ℕ) → a ≤ b → b ≤ c → slice_range xs a c ≡ slice_range xs a b ++ slice_range xs b c
slice_join xs a b c low high =
    let sizes : c - a ≡ (b - a) + (c - b) = omega arith in
    let place : a + (b - a) ≡ b = omega arith in
    cc (take-add (b - a) (c - b) (drop a xs), drop-drop (b - a) a xs)

-- bytes behind a commit byte that was opened after them
pub committed : (at : ℕ) (bytes old mid new : List ℕ) → at + 1 + length bytes ≤ length old → mid ≡ splice (at + 1) bytes old
    → new ≡ splice at (167 ∷ []) mid → slice_range new at (at + 1 + length bytes) ≡ 167 ∷ bytes
committed at bytes old mid new fits first second =
    let long : length mid ≡ length old = ap length first ∙ length-splice _ bytes old fits in
    let commit_fits : at + 1 ≤ length mid = omega (arith, long) in
    let torn : Torn at 1 mid new = subst (Torn at 1 mid) (sym second) (torn_splice at (167 ∷ []) mid commit_fits) in
    let commit : slice_range new at (at + 1) ≡ 167 ∷ [] = cc (splice_slice at (167 ∷ []) mid commit_fits) in
    let body : slice_range new (at + 1) (at + 1 + length bytes) ≡ bytes =
    cc (torn_slice_after at 1 mid new torn (at + 1) (at + 1 + length bytes) (omega arith) (omega (arith, long)), splice_slice (at + 1) bytes old fits) in
    cc (slice_join new at (at + 1) (at + 1 + length bytes) (omega arith) (omega arith))

-- an image with the header, the first manifest body with the digest of no entries, and an empty log 0
pub fresh_store : (shape : Shape) (digests : Digests) (image : List ℕ) → InLimits shape → digests.sorted.0 ≡ entries_digest []
    → length image ≡ device_size shape → header_of image ≡ 167 ∷ header_bytes shape → IsFirst digests image
    → log_rows shape 0 image ≡ [] → StandsFor shape empty image
fresh_store shape digests image limits of_none long header first rows =
    let is : shape_found (length image) (header_of image) ≡ Ok shape = cc (formatted_law shape limits) in
    search (arith, first_is_current, empty_law)

module _ (shape : Shape) (limits : InLimits shape) (c1 c2 c3 : Content) (sized : size c1 ≡ device_size shape) (long2 : size c2 ≡ size c1) (slot : Writes (slot_at 1) (0 ∷ []) c1 c2)
    (prepared : ChangesWithin (commits_at shape 0) shape.log_capacity c2 c3) where
  -- the commit byte of slot 1 stays closed
  pub second_closed : Rests c3 → LeavesOnly c3 (λ image. is_slot_open image 1 ≡ false)
  second_closed rests =
      let low : 12288 ≤ commits_at shape 0 = omega arith in
      let end : 12288 ≤ device_size shape = omega (arith) in
      rests_leaves rests (closed_elsewhere 1 (commits_at shape 0) shape.log_capacity c2 c3 (omega arith) (omega (arith, long2, sized, end))
      (inr low) prepared (closed_shown 1 c1 c2 (omega (arith, sized, end)) slot))

-- each possible crash image of the device is an empty store
pub formatted : (shape : Shape) (digests : Digests) (c3 c4 c5 : Content) → InLimits shape → digests.sorted.0 ≡ entries_digest []
    → size c3 ≡ device_size shape → size c4 ≡ device_size shape → size c5 ≡ device_size shape
    → LeavesOnly c3 (λ image. log_rows shape 0 image ≡ []) → ChangesWithin (slot_at 0) 4096 c3 c4 → LeavesOnly c4 (IsFirst digests)
    → ChangesWithin 0 37 c4 c5 → (IsTrue c5.honest → header_of c5.shown ≡ 167 ∷ header_bytes shape) → Rests c5
    → LeavesOnly c5 (StandsFor shape empty)
formatted shape digests c3 c4 c5 limits of_none size3 size4 size5 empties manifest first header has_header rests =
    let first5 = first_elsewhere 0 37 c4 c5 (omega (arith, size4)) (inl (omega arith)) header first in
    record {
      each = λ h5 image left.
          let h4 : IsTrue c4.honest = sym header.honest ∙ h5 in
          let h3 : IsTrue c3.honest = sym manifest.honest ∙ h4 in
          let least : 0 < shape.logs = omega (arith, limits.logs_least) in
          let rows4 = log_rows_elsewhere shape 0 _ 4096 _ _ least (omega (arith, size3)) (inl (omega arith)) (manifest.shown h3) in
          let rows5 = log_rows_elsewhere shape 0 0 37 _ _ least (omega (arith, size4)) (inl (omega arith)) (header.shown h4) in
          let shown =
          fresh_store shape _ _ limits of_none size5 (has_header h5) (first5.each h5 c5.shown (shown_left c5)) (rows5 ∙ rows4 ∙ empties.each h3 c3.shown (shown_left c3)) in
          rw (← (left_at_rest rests h5 image left)) at shown;
    }
