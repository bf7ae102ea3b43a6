-- What a crash leaves of a formatting.
use Rattle.silt_recovery.proofs.Common.{◌≡◌, ◌≤◌, ◌<◌, ℕ, ◌+◌, false, IsTrue, List, [], ◌∷◌, length, get_or, Ok, Err, Some, inl, inr, ap, sym, ◌∙◌, subst, arith, Content, Torn, Writes}
use Rattle.silt_recovery.proofs.Common.{ChangesWithin, LeavesOnly, Rests, size, Shape, InLimits, device_size, slot_at, header_bytes, header_of, entries_digest, image_verdict, log_rows, Digests}
use Rattle.silt_recovery.proofs.Common.{slice_range, slice_index, Result, get_or-take, Tears, is_formatted, no_stores_law, log_rows_elsewhere, IsFirst, first_elsewhere, not_formatted}
use Rattle.silt_disk.proofs.Images.{left_at_rest, sized_leaves, splice_slice, torn_refl, torn_slice_after, within_leaves, write_within}
use Rattle.std.specs.Result.{OnErr}
use Rattle.silt_frame.specs.Commit.{is_open}
use Rattle.silt_image.specs.Stores.{image_stores}
use Rattle.silt_event.specs.declared.damage.Finding.TheVariants.{NotFormatted}
use Rattle.silt_recovery.specs.Format.{HasHeaderOrNone, IsCommitClosed, IsHalfFormatted}
use Rattle.silt_recovery.proofs.Formats.{fresh_store}

-- ---- the header's commit byte

-- it stays closed under a change behind it
commit_stays : (at count : ℕ) → 1 ≤ at → (before after : List ℕ) → IsCommitClosed before → Torn at count before after → IsCommitClosed after
commit_stays at count behind before after closed torn = λ e. closed (sym (torn.before 0 (omega arith)) ∙ e)

pub commit_kept : (at count : ℕ) (old new : Content) → 1 ≤ at → ChangesWithin at count old new → LeavesOnly old IsCommitClosed → LeavesOnly new IsCommitClosed
commit_kept at count old new behind changes closed = within_leaves changes closed (commit_stays at count behind)

pub commit_kept_by_write : (at count : ℕ) (old new : Content) → 1 ≤ at → Tears at count old new → LeavesOnly old IsCommitClosed → LeavesOnly new IsCommitClosed
commit_kept_by_write at count old new behind tears closed = commit_kept at count old new behind (write_within tears) closed

-- it is closed once that is settled
pub commit_closed : (old new : Content) → 1 ≤ size old → Writes 0 (0 ∷ []) old new → Rests new → LeavesOnly new IsCommitClosed
commit_closed old new least writes rests = search arith

-- no store is behind a closed commit byte
pub closed_verdict : (image : List ℕ) → IsCommitClosed image → image_verdict image ≡ Some NotFormatted
unfolding image_stores
closed_verdict image closed =
    let commit : slice_index (header_of image) 0 ≡ get_or image 0 0 = get_or-take 37 image 0 0 (omega arith) in
    let shut : is_open (slice_index (header_of image) 0) ≡ false = search arith in
    let none : is_formatted (header_of image) ≡ false = search arith in
    search (arith, no_stores_law, not_formatted)

-- ---- the exits of writing the header

-- behind the closed commit byte
pub header_behind : (shape : Shape) (at count : ℕ) (old new : Content) → 1 ≤ at → ChangesWithin at count old new → LeavesOnly old IsCommitClosed → LeavesOnly new (HasHeaderOrNone shape)
header_behind shape at count old new behind changes closed = record { each = λ honest image left. inl ((commit_kept at count old new behind changes closed).each honest image left) }

-- the header with any commit byte
pub header_committed : (shape : Shape) (old between new : Content) → 37 ≤ size old → Writes 1 (header_bytes shape) old between
    → Rests between → size between ≡ size old → ChangesWithin 0 1 between new → LeavesOnly new (HasHeaderOrNone shape)
header_committed shape old between new least writes rests same changes = record {
  each = λ honest image left.
      let h1 : IsTrue between.honest = sym changes.honest ∙ honest in
      let h0 : IsTrue old.honest = sym writes.honest ∙ h1 in
      let from = changes.left h1 image left in
      let is : from.0 ≡ between.shown = left_at_rest rests h1 from.0 from.1 in
      let torn : Torn 0 1 between.shown image = subst (λ (before : List ℕ). Torn 0 1 before image) is from.2 in
      let long : length between.shown ≡ length old.shown = same in
      let body : slice_range image 1 37 ≡ header_bytes shape =
      torn_slice_after 0 1 between.shown image torn 1 37 (omega arith) (omega (arith, long, least)) ∙ ap (λ (x : List ℕ). slice_range x 1 37) (writes.shown h0)
      ∙ splice_slice 1 (header_bytes shape) old.shown (omega (arith, least)) in
      search arith;
}

-- ---- the exits of formatting

-- at the first commit byte
pub left_but_for_commit : (shape : Shape) (old new : Content) → ChangesWithin 0 1 old new → LeavesOnly new (IsHalfFormatted old shape)
left_but_for_commit shape old new changes = record {
  each = λ honest image left.
      let from = changes.left (sym changes.honest ∙ honest) image left in
      inl (record { before = from.0; left = from.1; torn = from.2 });
}

-- if nothing was written
pub left_so : (shape : Shape) (content : Content) → LeavesOnly content (IsHalfFormatted content shape)
left_so shape content = record { each = λ honest image left. inl (record { before = image; left = left; torn = torn_refl 0 1 image }) }

-- behind the closed commit byte
pub left_closed : (shape : Shape) (old new : Content) → LeavesOnly new IsCommitClosed → LeavesOnly new (IsHalfFormatted old shape)
left_closed shape old new closed = record { each = λ honest image left. inr (inl (closed_verdict image (closed.each honest image left))) }

-- the rows of log 0 stay none under a change before the logs
rows_stay : (shape : Shape) (at count : ℕ) (old new : Content) → 0 < shape.logs → size old ≡ device_size shape → at + count ≤ 12288
    → ChangesWithin at count old new → LeavesOnly old (λ image. log_rows shape 0 image ≡ []) → LeavesOnly new (λ image. log_rows shape 0 image ≡ [])
rows_stay shape at count old new least sized low changes none =
    within_leaves changes (sized_leaves none) (λ before after (had : (length before ≡ size old) × (log_rows shape 0 before ≡ [])) torn.
    log_rows_elsewhere shape 0 at count before after least (omega (arith, had.0, sized)) (inl (omega (arith, low))) torn ∙ had.1)

-- with any of the header's commit byte
pub left_at_last : (shape : Shape) (digests : Digests) (old c3 c4 c5 : Content) → InLimits shape → digests.sorted.0 ≡ entries_digest []
    → size c3 ≡ device_size shape → size c4 ≡ device_size shape → size c5 ≡ device_size shape
    → LeavesOnly c3 (λ image. log_rows shape 0 image ≡ []) → ChangesWithin (slot_at 0) 4096 c3 c4 → LeavesOnly c4 (IsFirst digests)
    → ChangesWithin 0 37 c4 c5 → LeavesOnly c5 (HasHeaderOrNone shape) → LeavesOnly c5 (IsHalfFormatted old shape)
left_at_last shape digests old c3 c4 c5 limits of_none size3 size4 size5 empties manifest first header has_header =
    let least : 0 < shape.logs = omega (arith, limits.logs_least) in
    let first5 : LeavesOnly c5 (IsFirst digests) = first_elsewhere 0 37 c4 c5 (omega (arith, size4)) (inl (omega arith)) header first in
    let rows4 = rows_stay shape (slot_at 0) 4096 c3 c4 least size3 (omega arith) manifest empties in
    let rows5 = rows_stay shape 0 37 c4 c5 least size4 (omega arith) header rows4 in
    record {
      each = λ honest image left.
          elim (has_header.each honest image left) [
            | inl closed ↦ inr (inl (closed_verdict image closed))
            | inr is ↦
                let long : length image ≡ device_size shape = left.size ∙ sym c5.sizes ∙ size5 in
                inr (inr (fresh_store shape digests image limits of_none long is (first5.each honest image left) (rows5.each honest image left)))
          ];
    }

-- a fact at an exit with a fault
pub on_err : {T E : Type 0} {P : Type 0} (result : Result T E) → P → OnErr result P
on_err (Ok x) fact = tt
on_err (Err e) fact = fact
