-- The bytes of a request as they come.
use Rattle.std.proofs.Common.{◌≡◌, ◌+◌, ◌-◌, ◌≤◌, ◌++◌, ℕ, List, [], Option, Some, None, length, take, drop, arith, refl, inl, ap, subst, sym, ◌∙◌, append-nil, length-append, length-drop}
use Rattle.std.proofs.Math.Seq.{take-append-add}
use Rattle.std.proofs.lemmas.List.{length-take-le, take-append-le}
use Rattle.std.specs.Io.KnownBytes.{Appends, Consumes}
use Rattle.httparse.specs.Grammar.{HasNoRequest, print_request}
use Rattle.silt_metrics.specs.Requests.{AsksFor, IsTakenFor}
use Rattle.silt_metrics.specs.declared.request.Wanted.{Wanted}
use Rattle.silt_metrics.specs.declared.request.Wanted.TheVariants.{Page, OtherPage, OtherMethod, Garbage}
use borrow.Rule.Slice.PartMut.{mid_of, post_of, put_mid}

pub nothing_taken : (remaining : Option (List ℕ)) → Consumes remaining remaining []
nothing_taken None = tt
nothing_taken (Some bytes) = refl

pub nothing_written : (contents : Option (List ℕ)) → Appends contents contents []
nothing_written None = tt
nothing_written (Some bytes) = sym (append-nil bytes)

pub no_request : HasNoRequest []
unfolding print_request
no_request h rest reads = omega (arith, reads.0.method, simp length-append at (ap length reads.1))

pub asked_taken : (read : List ℕ) (wanted : Wanted) → AsksFor read wanted → IsTakenFor read wanted
asked_taken read Page asks = asks
asked_taken read OtherPage asks = asks
asked_taken read OtherMethod asks = asks
asked_taken read Garbage asks = inl asks

-- more bytes behind the first ones
pub bytes_more : (len count : ℕ) (head piece : List ℕ) → len ≤ 8192 → length head ≡ 8192 → length piece ≡ 8192 - len → count ≤ length piece
    → take (len + count) (put_mid len (8192 - len) head piece) ≡ take len head ++ take count piece
bytes_more len count head piece fits room long few =
    let width : length (take len head) ≡ len = length-take-le len head (omega (arith, fits, room)) in
    let rest = piece ++ post_of len (8192 - len) head in
    let more : take (length (take len head) + count) (take len head ++ rest) ≡ take len head ++ take count rest = take-append-add (take len head) rest count in
    let first : take count rest ≡ take count piece = take-append-le count piece (post_of len (8192 - len) head) few in
    subst (λ n. take (n + count) (take len head ++ rest) ≡ take len head ++ take count piece) width (more ∙ ap (λ z. take len head ++ z) first)

pub room_kept : (len : ℕ) (head piece : List ℕ) → len ≤ 8192 → length head ≡ 8192 → length piece ≡ 8192 - len
    → length (put_mid len (8192 - len) head piece) ≡ 8192
room_kept len head piece fits room long =
    omega (
      arith,
      fits,
      room,
      long,
      length-append (take len head) (piece ++ post_of len (8192 - len) head),
      length-append piece (post_of len (8192 - len) head),
      length-take-le len head (omega arith),
      length-drop (8192 - len) (drop len head),
      length-drop len head,
    )

-- the room behind the first bytes
pub piece_room : (len : ℕ) (head : List ℕ) → len ≤ 8192 → length head ≡ 8192 → length (mid_of len (8192 - len) head) ≡ 8192 - len
piece_room len head fits room = omega (arith, fits, room, length-take-le (8192 - len) (drop len head) (omega (arith, fits, room, length-drop len head)))
