-- The state after the first write of a manifest.
use Rattle.silt_manifest.proofs.Common.{◌≡◌, ℕ, ◌+◌, ◌≤◌, true, false, List, [], ◌∷◌, length, slice_range, slice_index, refl, sym, ap, ◌∙◌, arith, nat_tests, Content, LeavesOnly, Torn, Writes}
use Rattle.silt_manifest.proofs.Common.{Rests, size, splice, header_of, version_of, Shape, InLimits, slot_at, is_open, FitsSlot, is_well_formed, FitsDigests, long_record, record_bytes, slot_of}
use Rattle.silt_manifest.proofs.Common.{is_slot_open, IsFirst, Digests, first_body, FirstIsCurrentLaw}
use Rattle.silt_disk.proofs.Images.{write_shows, rests_leaves, leaves_shows, sized_shows, torn_splice, torn_slice_after, splice_slice}
use Rattle.silt_manifest.proofs.DigestTrip.{length_record_bytes}
use Rattle.silt_manifest.proofs.SlotImages.{slot_parts, commit_of, closed_record, other_same, commit_written}
use Rattle.silt_manifest.proofs.CurrentLemmas.{alone_found}
use Rattle.silt_manifest.proofs.SoundBodies.{long_sound}
use Rattle.silt_manifest.proofs.CommitExits.{holds_record}

-- the first body's numbers fit their fields
pub first_fits : FitsSlot first_body
first_fits = grind arith

-- and it is well formed in each geometry
pub first_sound : (s : Shape) → InLimits s → is_well_formed s 0 first_body ≡ true
first_sound s limits = grind (arith, nat_tests, limits.logs_least)

-- in an image of this length the slot 1 is closed
pub record IsAlone (n : ℕ) (image : List ℕ) : Type 0 where
  pub size : length image ≡ n
  pub closed : is_slot_open image 1 ≡ false

-- and slot 0 has the first record's bytes
pub record HasBytes (digests : Digests) (n : ℕ) (image : List ℕ) : Type 0 where
  pub size : length image ≡ n
  pub closed : is_slot_open image 1 ≡ false
  pub bytes : slice_range image 4097 4557 ≡ record_bytes first_body digests

module _ (digests : Digests) (held : FitsDigests digests) (n : ℕ) (fits : slot_at 1 + 4096 ≤ n) where
  -- a change in the slot 0 leaves the slot 1 closed
  still_alone : (at count : ℕ) (before after : List ℕ) → 4096 ≤ at → at + count ≤ 8192 → IsAlone n before → Torn at count before after → IsAlone n after
  still_alone at count before after low high was torn =
      record {
        size = torn.size ∙ was.size;
        closed = ap (λ bytes. is_open (slice_index bytes 0)) (other_same 1 0 at count before after refl low high (omega arith) torn) ∙ was.closed;
      }

  -- after the zero
  after_zero : (before : List ℕ) → IsAlone n before → IsAlone n (splice 4096 (0 ∷ []) before)
  after_zero before was = let size = was.size in still_alone 4096 1 before (splice 4096 (0 ∷ []) before) (omega arith) (omega arith) was (torn_splice 4096 (0 ∷ []) before (omega arith))

  -- after the bytes
  after_bytes : (bytes : List ℕ) → length bytes ≡ 460 → bytes ≡ record_bytes first_body digests → (before : List ℕ) → IsAlone n before → HasBytes digests n (splice 4097 bytes before)
  after_bytes bytes long are before was =
      let now = still_alone 4097 _ before _ (omega arith) (omega arith) was (torn_splice 4097 bytes before (omega arith)) in
      let end : 4097 + length bytes ≡ 4557 = omega arith in
      record { size = now.size; closed = now.closed; bytes = cc (splice_slice 4097 bytes before (omega arith)) }

  -- after the commit byte
  after_commit : (before : List ℕ) → HasBytes digests n before → IsFirst digests (splice 4096 (167 ∷ []) before)
  after_commit before was =
      let after = splice 4096 (167 ∷ []) before in
      let torn : Torn 4096 1 before after = torn_splice 4096 (167 ∷ []) before (omega arith) in
      let now = still_alone 4096 1 before after (omega arith) (omega arith) (record { size = was.size; closed = was.closed }) torn in
      let room : slot_at 0 + 461 ≤ length after = omega (arith, torn.size) in
      let commit : slice_index (slot_of after 0) 0 ≡ 167 = commit_written 167 0 before (omega arith) in
      let bytes : slice_range after 4097 4557 ≡ record_bytes first_body digests = torn_slice_after 4096 1 before after torn 4097 4557 (omega arith) (omega arith) ∙ was.bytes in
      record {
        first = holds_record after 0 first_body digests room first_fits held (ap is_open commit) bytes;
        second = closed_record (slot_of after 1) now.closed;
        bytes = slot_parts after 0 room ∙ ap (λ (g : ℕ). g ∷ slice_range after 4097 4557) (sym (commit_of after 0 room) ∙ commit) ∙ ap (λ (rest : List ℕ). 167 ∷ rest) bytes;
      }

-- all is written
pub all_first : (digests : Digests) (bytes : List ℕ) (a b c d : Content) → FitsDigests digests → slot_at 1 + 4096 ≤ size a → LeavesOnly a (λ image. is_slot_open image 1 ≡ false)
    → bytes ≡ record_bytes first_body digests → Writes 4096 (0 ∷ []) a b → Writes 4097 bytes b c → Writes 4096 (167 ∷ []) c d → Rests d → LeavesOnly d (IsFirst digests)
all_first digests bytes a b c d held fits closed are first second third rests =
    let alone = sized_shows (leaves_shows closed) in
    let long : length bytes ≡ 460 = ap length are ∙ length_record_bytes first_body digests first_fits held in
    let zeroed = write_shows {Q = IsAlone (size a)} first alone (λ before had. after_zero digests held (size a) fits before (record { size = had.0; closed = had.1 })) in
    rests_leaves rests (write_shows third (write_shows second zeroed (after_bytes digests held (size a) fits bytes long are)) (after_commit digests held (size a) fits))

-- a first record is current
pub first_is_current : FirstIsCurrentLaw
first_is_current s digests image limits first second =
    let v = version_of (header_of image) in
    alone_found s v 0 1 (long_record first_body digests) image refl refl (long_sound s v 0 (long_record first_body digests) refl (first_sound s limits)) first second
