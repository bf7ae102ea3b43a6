-- Numbers in words.
use Rattle.std.specs.Prelude.{ℕ, Bool, ◌&&◌, nat_le, if◌then◌else◌, List, length, Option, Some, None}
use Rattle.std.specs.Char.{is_ascii_digit}
use Rattle.std.specs.List.{list_all}
use Rattle.std.specs.Str.Parse.{digits_value}

-- one to ten decimal digits and nothing else
abbrev pub is_numeral : List ℕ → Bool
is_numeral word = nat_le 1 (length word) && (nat_le (length word) 10 && list_all is_ascii_digit word)

-- the number that a word spells, of at most 4,294,967,295
abbrev pub number_of : List ℕ → Option ℕ
number_of word = if is_numeral word then (if nat_le (digits_value 10 word) 4294967295 then Some (digits_value 10 word) else None) else None
