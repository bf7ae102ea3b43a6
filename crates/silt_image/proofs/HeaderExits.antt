-- What is found in a header, at each exit of reading it.
use Rattle.silt_image.proofs.Common.{◌==◌, ◌&&◌, Bool, ◌∙◌, and_from, ◌≢◌, ◌≤◌, ◌<◌, true, false, nat_le, sym, ap, eq-eqb, ne_eqb, Shape, InLimits, device_size, header_shape, is_formatted}
use Rattle.silt_image.proofs.Common.{is_in_limits, NotFormatted, Damaged, Header, Length, refl, ◌≡◌, ℕ, List, Ok, Err, le-leb, and_right, false_from_ne_true, lt-leb}
use Rattle.silt_image.proofs.Named.{tested, limits_law}
use Rattle.silt_image.specs.Stores.{shape_found}

-- the tests, by their outcomes
tested_as : (a b c d e f : Bool) (shape : Shape) → a ≡ d → b ≡ e → c ≡ f → tested a b c shape ≡ tested d e f shape
tested_as a b c d e f shape p q r = rw (p, q, r) refl

-- a device that is shorter than a header
pub too_short : (len : ℕ) (header : List ℕ) → len < 37 → shape_found len header ≡ Err NotFormatted
unfolding shape_found
too_short len header short = cc (lt-leb 37 len short)

-- other bytes than those of a header
pub not_formatted : (len : ℕ) (header : List ℕ) → is_formatted header ≡ false → shape_found len header ≡ Err NotFormatted
unfolding shape_found
not_formatted len header other = cc (and_right (nat_le 37 len) (is_formatted header) other)

-- a number out of its limits
pub out_of_limits : (len : ℕ) (header : List ℕ) → 37 ≤ len → is_formatted header ≡ true → ¬ InLimits (header_shape header) → shape_found len header ≡ Err (Damaged Header)
unfolding shape_found
out_of_limits len header long formatted out =
    let size = len == device_size (header_shape header) in
    tested_as (nat_le 37 len && is_formatted header) (is_in_limits (header_shape header)) size true false size (header_shape header) (and_from _ _ (le-leb 37 len long) formatted)
    (false_from_ne_true (is_in_limits (header_shape header)) (λ is. out ((limits_law (header_shape header)).0 is))) refl

-- a length that is not the one of the numbers
pub another_length : (len size : ℕ) (header : List ℕ) (shape : Shape) → 37 ≤ len → is_formatted header ≡ true → (shape ≡ header_shape header)
    × InLimits (header_shape header) → size ≡ device_size shape → len ≢ size → shape_found len header ≡ Err (Damaged Length)
unfolding shape_found
another_length len size header shape long formatted (same, limits) is other =
    tested_as (nat_le 37 len && is_formatted header) (is_in_limits (header_shape header)) (len == device_size (header_shape header)) true true false (header_shape header)
    (and_from _ _ (le-leb 37 len long) formatted) ((limits_law (header_shape header)).1 limits)
    (ne_eqb len (device_size (header_shape header)) (λ e. other (e ∙ ap (λ (s : Shape). device_size s) (sym same) ∙ sym is)))

-- the shape
pub has_shape : (len size : ℕ) (header : List ℕ) (shape : Shape) → 37 ≤ len → is_formatted header ≡ true → (shape ≡ header_shape header)
    × InLimits (header_shape header) → size ≡ device_size shape → len ≡ size → shape_found len header ≡ Ok shape
unfolding shape_found
has_shape len size header shape long formatted (same, limits) is equal =
    tested_as (nat_le 37 len && is_formatted header) (is_in_limits (header_shape header)) (len == device_size (header_shape header)) true true true (header_shape header)
    (and_from _ _ (le-leb 37 len long) formatted) ((limits_law (header_shape header)).1 limits)
    (eq-eqb len (device_size (header_shape header)) (equal ∙ is ∙ ap (λ (s : Shape). device_size s) same))
    ∙ ap Ok (sym same)
