-- The number that digits write.
use Rattle.silt_wire.proofs.Common.{◌≡◌, ◌<◌, ◌≤◌, ◌+◌, ◌-◌, ◌&&◌, ℕ, zero, suc, List, [], ◌∷◌, length, true, refl, sym, ap, ◌∙◌, take, get_or, arith, digits_value, ◌*◌, ◌^◌, list_all, AllDigits}
use Rattle.std.specs.Char.{is_ascii_digit, digit_value}
use Rattle.std.specs.Str.{all_ascii_digits}
use Rattle.std.proofs.lemmas.Int.Digits.{digits_value_more}
use Rattle.std.proofs.lemmas.Str.{digit_value_digit}
use Rattle.std.proofs.lemmas.Str.Parse.{digits_value-take-le, digits_value_short, digit_from_value, numerals_by_value, tells_all_ascii_digits}

is_all_ascii_digits : (ds : List ℕ) → list_all is_ascii_digit ds ≡ all_ascii_digits ds
is_all_ascii_digits [] = refl
is_all_ascii_digits (d ∷ ds) = ap (λ b. is_ascii_digit d && b) (is_all_ascii_digits ds)

pub AllDigits-from_test : (ds : List ℕ) → list_all is_ascii_digit ds ≡ true → AllDigits 10 ds
AllDigits-from_test ds digits = (numerals_by_value (λ cs. all_ascii_digits cs ≡ true) tells_all_ascii_digits).to ds (sym (is_all_ascii_digits ds) ∙ digits)

-- each beginning of ten digits at most writes a number below 10^10
pub digits_value-bound : (ds : List ℕ) (i : ℕ) → list_all is_ascii_digit ds ≡ true → length ds ≤ 10 → digits_value 10 (take i ds) < 10000000000
digits_value-bound ds i digits short =
    let whole : digits_value 10 ds < 10 ^ 10 = digits_value_short (numerals_by_value (λ cs. all_ascii_digits cs ≡ true) tells_all_ascii_digits) ds 10 (sym (is_all_ascii_digits ds) ∙ digits) short in
    search (arith, digits_value-take-le)

digit-at : (ds : List ℕ) (i : ℕ) → i < length ds → AllDigits 10 ds → digit_value (get_or ds i 0) < 10
digit-at [] i lt h = absurd (omega arith)
digit-at (d ∷ ds) zero lt h = h.0
digit-at (d ∷ ds) (suc i) lt h = digit-at ds i (omega arith) h.1

-- one digit more
pub digits_value-next : (ds : List ℕ) (i : ℕ) → list_all is_ascii_digit ds ≡ true → i < length ds → digits_value 10 (take i ds) * 10 + (get_or ds i 0 - 48) ≡ digits_value 10 (take (i + 1) ds)
digits_value-next ds i digits lt = search (arith, digit_value_digit, digit_from_value, digit-at, AllDigits-from_test, digits_value_more)
