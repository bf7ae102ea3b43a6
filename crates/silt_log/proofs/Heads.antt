-- The heads and the whole bodies that are read.
use Rattle.silt_log.proofs.Common.{◌≡◌, ℕ, ◌+◌, ◌≤◌, List, length, take, drop, slice_range, sym, ap, ◌∙◌, arith, get_or-between, Shape, row_len, head_of, body_at, row_of}
use Rattle.silt_log.specs.Rows.{row_at, row_head}
use Rattle.silt_log.proofs.Parts.{slice_of_slice, drop_front}

-- a head that was read is that of the row
pub head_read : (s : Shape) (region place at : ℕ) (image head : List ℕ) → at ≡ body_at s region place → at + row_len s ≤ length image
    → head ≡ slice_range image at (at + 21) → head_of head ≡ row_head (row_at s region image place)
unfolding row_at row_head
head_read s region place at image head same fits read =
    let len : ℕ = row_len s in
    let body : List ℕ = slice_range image at (at + len) in
    let long : 21 ≤ len = omega arith in
    let front : head ≡ slice_range body 0 21 = read ∙ ap (λ n. slice_range image n (n + 21)) (omega arith) ∙ slice_of_slice image at len 0 21 long fits in
    search (arith, get_or-between, drop_front)

-- a body that was read holds the row
pub body_read : (s : Shape) (region place at count : ℕ) (image bytes : List ℕ) → at ≡ body_at s region place → count ≡ row_len s
    → bytes ≡ slice_range image at (at + count) → row_of bytes ≡ row_at s region image place
unfolding row_at
body_read s region place at count image bytes same counted read = search arith

-- the head of a front that was read is that of the row
pub front_read : (s : Shape) (region place at count : ℕ) (image bytes head : List ℕ) → at ≡ body_at s region place
    → at + row_len s ≤ length image → 21 ≤ count → count ≤ row_len s → bytes ≡ slice_range image at (at + count)
    → head ≡ take 21 bytes → head_of head ≡ row_head (row_at s region image place)
front_read s region place at count image bytes head same fits least most read front =
    let part : slice_range image at (at + 21) ≡ take 21 (slice_range image at (at + count)) =
    ap (λ n. slice_range image n (n + 21)) (omega arith) ∙ slice_of_slice image at count 0 21 least (omega (arith, most, fits)) in
    head_read s region place at image head same fits (front ∙ ap (take 21) read ∙ sym part)

-- and the value follows the head of a whole body
pub front_value : (s : Shape) (region place at count : ℕ) (image bytes : List ℕ) → at ≡ body_at s region place → count ≡ row_len s
    → bytes ≡ slice_range image at (at + count) → drop 21 bytes ≡ (row_at s region image place).value
front_value s region place at count image bytes same whole read = ap (λ r. r.value) (body_read s region place at count image bytes same whole read)
