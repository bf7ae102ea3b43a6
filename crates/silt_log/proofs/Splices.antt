-- One write after another.
use Rattle.silt_log.proofs.Common.{◌≡◌, ℕ, ◌+◌, ◌-◌, ◌≤◌, List, ◌++◌, length, take, drop, replicate, sym, ap, ◌∙◌, subst, inl, inr, arith, length-append, length-take-le, cases_lt, Content, Torn}
use Rattle.silt_log.proofs.Common.{ChangesWithin, Writes, size, splice, torn_splice, splice_byte, Key, Kind, row_of, ext_get_or, append_assoc, take_at, drop_at, drop-drop, head_bytes, stored_row}
use Rattle.silt_log.proofs.Counts.{same_byte}

-- the same bytes over a range hide an earlier write there
pub spliced_over : (at : ℕ) (bytes old new : List ℕ) → at + length bytes ≤ length old → Torn at (length bytes) old new → splice at bytes new ≡ splice at bytes old
spliced_over at bytes old new fits torn =
    let fits_new : at + length bytes ≤ length new = omega (arith, torn.size) in
    let over_old = torn_splice at bytes old fits in
    let over_new = torn_splice at bytes new fits_new in
    ext_get_or 0 (splice at bytes new) (splice at bytes old) (over_new.size ∙ torn.size ∙ sym over_old.size) (λ place _. elim (cases_lt place at) [
      | inl low ↦ over_new.before place low ∙ torn.before place low ∙ sym (over_old.before place low)
      | inr high ↦ elim (cases_lt place (at + length bytes)) [
        | inl inside ↦
            let here : place ≡ at + (place - at) = omega arith in
            search (arith, same_byte, splice_byte)
        | inr past ↦ over_new.after place past ∙ torn.after place past ∙ sym (over_old.after place past)
      ]
    ])

-- two writes, one behind the other, write both parts
pub spliced_twice : (at : ℕ) (first second image : List ℕ) → at + length first ≤ length image → splice (at + length first) second (splice at first image) ≡ splice at (first ++ second) image
spliced_twice at first second image fits =
    let front : List ℕ = take at image ++ first in
    let rest : List ℕ = drop (at + length first) image in
    let long : length front ≡ at + length first = omega (arith, length-append (take at image) first, length-take-le at image (omega arith)) in
    let kept : take (at + length first) (front ++ rest) ≡ front = take_at front rest (at + length first) long in
    let left : drop (at + length first + length second) (front ++ rest) ≡ drop (at + length (first ++ second)) image =
    sym (drop-drop (length second) (at + length first) (front ++ rest)) ∙ ap (drop (length second)) (drop_at front rest (at + length first) long)
    ∙ drop-drop (length second) (at + length first) image ∙ ap (λ n. drop n image) (omega (arith, length-append first second)) in
    cc (append_assoc (take at image) first second)

-- two writes that follow each other, each with Ok
pub both_written : (at : ℕ) (first second : List ℕ) (old between new : Content) → at + (length first + length second) ≤ size old
    → Writes at first old between → Writes (at + length first) second between new → Writes at (first ++ second) old new
both_written at first second old between new fits writes later = search (arith, spliced_twice, later.shown, writes.shown)

-- a change of a range under another name
pub within_at : (at count at_other count_other : ℕ) (old new : Content) → at ≡ at_other → count ≡ count_other → ChangesWithin at count old new → ChangesWithin at_other count_other old new
within_at at count at_other count_other old new same_at same_count changes = search arith

-- a write to a place under another name
pub writes_at : (at at_other : ℕ) (bytes : List ℕ) (old new : Content) → at ≡ at_other → Writes at bytes old new → Writes at_other bytes old new
writes_at at at_other bytes old new same writes = subst (λ n. Writes n bytes old new) same writes

-- a write of one byte to some places under another name
pub fills_at : (at at_other count count_other byte : ℕ) (old new : Content) → at ≡ at_other → count ≡ count_other
    → Writes at (replicate count byte) old new → Writes at_other (replicate count_other byte) old new
fills_at at at_other count count_other byte old new same_at same_count writes = search (arith, writes_at)

-- the row of a head and a value
pub row_of_parts : (kind : Kind) (key : Key) (head value : List ℕ) → head ≡ head_bytes kind key → length head ≡ 21 → row_of (head ++ value) ≡ stored_row kind key value
row_of_parts kind key head value is long =
    let bytes : List ℕ = key.0 in
    let key_long : length bytes ≡ 20 = omega (arith, ap length is, long) in
    let here : row_of (head ++ value) ≡ row_of (head_bytes kind key ++ value) = ap (λ (l : List ℕ). row_of (l ++ value)) is in
    let front : take 20 (bytes ++ value) ≡ bytes = take_at bytes value 20 key_long in
    let back : drop 20 (bytes ++ value) ≡ value = drop_at bytes value 20 key_long in
    cc
