-- What is written in a header is what is read.
use Rattle.silt_image.proofs.Common.{◌<◌, ◌≤◌, true, sym, ap, ◌∙◌, arith, append-nil, big_bytes, Shape, InLimits, device_size, header_bytes, header_shape, is_formatted, ◌≡◌, ℕ, ◌^◌, List, [], ◌∷◌}
use Rattle.silt_image.proofs.Common.{refl, subst, big_number, bucket_count_most, FitsHeader}
use Rattle.byteorder.specs.Numbers.{big_number-reads_back}
use Rattle.silt_image.specs.Laws.{FormattedLaw, HeaderLaw}
use Rattle.silt_image.proofs.HeaderExits.{has_shape}

-- a number of four bytes reads back
reads : (x : ℕ) → x < 256 ^ 4 → big_number 4 (big_bytes 4 x) ≡ x
reads x fits = big_number-reads_back 4 x [] fits

-- a header reads back
pub header_law : HeaderLaw
header_law shape commit rest fits = search arith

-- numbers within the limits fit a header
pub fits_header : (shape : Shape) → InLimits shape → FitsHeader shape
fits_header shape limits = search (arith, bucket_count_most)

-- behind an open commit byte it is formatted
pub formatted_header : (shape : Shape) → is_formatted (167 ∷ header_bytes shape) ≡ true
formatted_header shape = refl

-- a device is longer than its header
long_device : (shape : Shape) → 37 ≤ device_size shape
long_device shape = omega arith

-- a device of the length that its header gives has the header's shape
pub formatted_law : FormattedLaw
formatted_law shape limits =
    let header : List ℕ = 167 ∷ header_bytes shape in
    let back : header_shape header ≡ shape = ap header_shape (sym (append-nil header)) ∙ header_law shape 167 [] (fits_header shape limits) in
    has_shape _ _ header shape (long_device shape) (formatted_header shape) (sym back, subst InLimits (sym back) limits) refl refl
