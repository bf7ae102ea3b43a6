-- Stop lines. A stop is a crash at a chosen device call.
use Rattle.std.specs.Prelude.{ℕ, nat_lt, if◌then◌else◌, List, [], ◌∷◌, length, codes, Option, Some, None}
use Rattle.std.specs.Str.Lines.{strip_carriage_return}
use Rattle.silt_jobs.specs.Common.{bytes_eq, Stop, words_of, longest_line}
use Rattle.silt_device.specs.declared.life.Fill.{Fill}
use Rattle.silt_device.specs.declared.life.Fill.TheVariants.{Old, New, Zero, Ones, Mix}
use Rattle.silt_wire.specs.Numbers.{number_of}

-- what a stop leaves, by its word
abbrev pub fill_of : List ℕ → Option Fill
fill_of word =
    if bytes_eq word (codes "old") then Some Old
    else if bytes_eq word (codes "new") then Some New
    else if bytes_eq word (codes "zero") then Some Zero
    else if bytes_eq word (codes "ones") then Some Ones
    else if bytes_eq word (codes "mix") then Some Mix
    else None

-- a stop at this call with this fill
abbrev pub stop_with : Option ℕ → Option Fill → Option Stop
stop_with None fill = None
stop_with (Some k) None = None
stop_with (Some k) (Some fill) = Some (record { k = k; fill = fill })

-- the stop of three words
abbrev pub reported_stop : List ℕ → List ℕ → List ℕ → Option Stop
reported_stop word k fill = if bytes_eq word (codes "stop") then stop_with (number_of k) (fill_of fill) else None

-- the stop in the words of a line: there are three words
unfoldable pub stop_of_words : List (List ℕ) → Option Stop
stop_of_words (word ∷ k ∷ fill ∷ []) = reported_stop word k fill
stop_of_words words = None

-- the stop in a line
abbrev pub stop_of : List ℕ → Option Stop
stop_of line = if nat_lt longest_line (length line) then None else stop_of_words (words_of (strip_carriage_return line))
