-- The result of a read of a part of a body.
use Rattle.silt_log.proofs.Common.{◌≡◌, ℕ, ◌+◌, ◌-◌, ◌≤◌, List, length, take, drop, slice_range, ap, ◌∙◌, arith, length-drop, length-between, get_or-between, Shape, row_len, body_at, ext_get_or}
use Rattle.silt_log.proofs.Common.{get_or-drop, drop-take}
use Rattle.silt_log.specs.Rows.{row_at}
use Rattle.silt_log.proofs.Counts.{same_byte}

-- a part of a part
pub slice_of_slice : (image : List ℕ) (at len from count : ℕ) → from + count ≤ len → at + len ≤ length image
    → slice_range image (at + from) (at + from + count) ≡ slice_range (slice_range image at (at + len)) from (from + count)
slice_of_slice image at len from count inside fits =
    let part : List ℕ = slice_range image at (at + len) in
    let part_long : length part ≡ at + len - at = length-between image at (at + len) fits in
    let whole : length (slice_range image (at + from) (at + from + count)) ≡ at + from + count - (at + from) = length-between image (at + from) (at + from + count) (omega arith) in
    let of_part : length (slice_range part from (from + count)) ≡ from + count - from = length-between part from (from + count) (omega arith) in
    ext_get_or 0 (slice_range image (at + from) (at + from + count)) (slice_range part from (from + count)) (omega arith)
    (search (arith, get_or-between, same_byte))

-- the end of a part
pub slice_to_end : (image : List ℕ) (at len from count : ℕ) → from + count ≡ len → at + len ≤ length image
    → slice_range image (at + from) (at + from + count) ≡ drop from (slice_range image at (at + len))
slice_to_end image at len from count inside fits =
    let part : List ℕ = slice_range image at (at + len) in
    let part_long : length part ≡ at + len - at = length-between image at (at + len) fits in
    let whole : length (slice_range image (at + from) (at + from + count)) ≡ at + from + count - (at + from) = length-between image (at + from) (at + from + count) (omega arith) in
    ext_get_or 0 (slice_range image (at + from) (at + from + count)) (drop from part) (omega (arith, length-drop from part))
    (search (arith, get_or-between, same_byte, get_or-drop))

-- the key of a row
pub key_read : (s : Shape) (region place at : ℕ) (image bytes : List ℕ) → at ≡ body_at s region place → at + row_len s ≤ length image
    → bytes ≡ slice_range image (at + 1) (at + 1 + 20) → bytes ≡ (row_at s region image place).key
unfolding row_at
key_read s region place at image bytes here fits read =
    read ∙ slice_of_slice image at (row_len s) 1 20 (omega arith) fits ∙ ap (λ n. slice_range (slice_range image n (n + row_len s)) 1 21) here

-- the value of a row
pub value_read : (s : Shape) (region place at count : ℕ) (image bytes : List ℕ) → at ≡ body_at s region place → at + row_len s ≤ length image
    → count ≡ s.value_len → bytes ≡ slice_range image (at + 21) (at + 21 + count) → bytes ≡ (row_at s region image place).value
unfolding row_at
value_read s region place at count image bytes here fits long read = search (arith, slice_to_end)

-- the front of a list without its own front
pub drop_front : (l : List ℕ) (n m : ℕ) → drop n (slice_range l 0 (n + m)) ≡ slice_range l n (n + m)
drop_front l n m = ap (λ k. drop n (take k l)) (omega arith) ∙ drop-take n m l ∙ ap (λ k. take k (drop n l)) (omega arith)
