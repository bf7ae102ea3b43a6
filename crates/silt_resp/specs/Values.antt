-- Strings as values, and names as keys.
use Rattle.std.specs.Prelude.{◌≡◌, ◌≤◌, ◌<◌, ◌+◌, ◌-◌, ℕ, List, ◌++◌, length, take, drop, replicate, Option, Some, None, if◌then◌else◌}
use Rattle.std.specs.Str.{bytes_eq}
use Rattle.byteorder.specs.Endian.{big_bytes, big_number}

-- two bytes count as many as are below this
abbrev pub count_limit : ℕ
count_limit = 65536

-- a string as a value of this many bytes: its length in two bytes, the string, and zeros
abbrev pub string_value : ℕ → List ℕ → List ℕ
string_value len s = big_bytes 2 (length s) ++ (s ++ replicate (len - (2 + length s)) 0)

-- as many bytes of a value behind its first two as these count, or all that there are
abbrev pub counted_bytes : List ℕ → List ℕ
counted_bytes value = take (big_number 2 value) (drop 2 value)

-- the string that has this value, if one has it
abbrev pub string_of : List ℕ → Option (List ℕ)
string_of value = if bytes_eq value (string_value (length value) (counted_bytes value)) then Some (counted_bytes value) else None

-- a string that fits is read back from its value, and a value that holds a string is the value of that string
abbrev pub ValuesLaw : Type 0
ValuesLaw =
    ((len : ℕ) (s : List ℕ) → 2 + length s ≤ len → length s < count_limit → (length (string_value len s) ≡ len) × (string_of (string_value len s) ≡ Some s))
    × ((value s : List ℕ) → string_of value ≡ Some s → value ≡ string_value (length value) s)
