-- HTTP requests. A client's session does not reply to them.
use Rattle.std.specs.Prelude.{◌≡◌, ◌==◌, ◌&&◌, ℕ, ◌+◌, nat_lt, Bool, true, false, List, [], ◌∷◌, ◌++◌, get_or, codes, Option, Some, None, option_map, if◌then◌else◌}
use Rattle.silt_wire.specs.declared.http_guard.FirstLine.{FirstLine}
use Rattle.silt_wire.specs.declared.http_guard.FirstLine.TheVariants.{Open, Passed, Refused}
use Rattle.silt_wire.specs.declared.http_guard.HttpGuard.{HttpGuard}

-- the first line of an HTTP request has these bytes, and no line with a valid request has them
abbrev pub http_mark : List ℕ
http_mark = codes " HTTP/"

-- whether these bytes end a line
abbrev pub ends_line : List ℕ → Bool
ends_line [] = false
ends_line (b ∷ bytes) = if b == 10 then true else ends_line bytes

-- the first line of these bytes has the mark
abbrev pub IsHttp : List ℕ → Type 0
IsHttp bytes = (front : List ℕ) × (back : List ℕ) × (ends_line front ≡ false) × (bytes ≡ front ++ (http_mark ++ back))

-- what the guard passes on to a session: no whole line of an HTTP request, and else all bytes
abbrev pub Guards : Option (List ℕ) → Option (List ℕ) → Type 0
Guards None given = Unit {0}
Guards (Some bytes) None = ⊥
Guards (Some bytes) (Some given) = (IsHttp bytes → ends_line given ≡ false) × ((IsHttp bytes → ⊥) → given ≡ bytes)

-- ---- byte by byte

-- a first line after one more byte, if its last bytes were the first ones of the mark, this many
abbrev pub open_after : ℕ → ℕ → FirstLine
open_after matched b =
    if b == 10 then Passed
    else if b == 32 then Open 1
    else if nat_lt matched 6 && (b == get_or http_mark matched 0) then (if matched == 5 then Refused else Open (matched + 1))
    else Open 0

-- what is known of the first line after one more byte
abbrev pub line_after : FirstLine → ℕ → FirstLine
line_after (Open matched) b = open_after matched b
line_after Passed b = Passed
line_after Refused b = Refused

abbrev pub is_turned_away : FirstLine → Bool
is_turned_away Refused = true
is_turned_away line = false

abbrev pub is_passed : FirstLine → Bool
is_passed Passed = true
is_passed line = false

-- the bytes that are passed on: all before the one that completes the mark in the first line
abbrev pub handed_on : FirstLine → List ℕ → List ℕ
handed_on line [] = []
handed_on line (b ∷ bytes) = if is_turned_away (line_after line b) then [] else b ∷ handed_on (line_after line b) bytes

-- the bytes that a guard has left
abbrev pub guard_remaining : {R : Type 0} → (R → Option (List ℕ)) → HttpGuard R → Option (List ℕ)
guard_remaining remaining guard = option_map (handed_on guard.line) (remaining guard.inner)
