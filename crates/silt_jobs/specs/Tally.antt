-- Which lines of an output are refusals.
use Rattle.std.specs.Prelude.{ℕ, ◌+◌, ◌-◌, ◌*◌, ◌%◌, ◌^◌, ◌==◌, nat_lt, Bool, if◌then◌else◌, cond, List, [], ◌∷◌, ◌++◌, codes, get_or, length, min, replicate}
use Rattle.std.specs.Prelude.{slice_index, slice_range, slice_set, take}
use Rattle.silt_jobs.specs.Common.{list_any, bytes_eq, Tally}
use Rattle.silt_jobs.specs.declared.people.tally.Refusals.{Refusals}

-- the number of one digit before a space, or of two digits
abbrev pub refusal_number : ℕ → ℕ → ℕ
refusal_number first second = if second == 32 then first - 48 else 10 * (first - 48) + (second - 48)

-- the number of the refusal on a line that begins so, or 0
abbrev pub refusal_in : List ℕ → ℕ
refusal_in begun =
    if nat_lt (length begun) 10 then 0
    else if bytes_eq (take 8 begun) (codes "refused ") then refusal_number (slice_index begun 8) (slice_index begun 9) else 0

-- with one more refusal, on this line
abbrev pub counted : Refusals → ℕ → Refusals
counted refusals line = record { count = min (refusals.count + 1) (2 ^ 64 - 1); first = cond (refusals.count == 0) line refusals.first }

-- no refusal
abbrev pub none_refused : Refusals
none_refused = record { count = 0; first = 0 }

-- one more refusal of this number, if there is such a number
abbrev pub counted_in : List Refusals → ℕ → ℕ → List Refusals
counted_in refused kind line = cond (nat_lt kind 24) (slice_set refused kind (counted (get_or refused kind none_refused) line)) refused

-- no line yet
abbrev pub unreported : Tally
unreported = record { ended = 0; begun = []; refused = replicate 24 none_refused }

-- a line has ended
abbrev pub line_ended : Tally → Tally
line_ended t =
    let ended = (t.ended + 1) % 2 ^ 64 in
    record { ended = ended; begun = []; refused = counted_in t.refused (refusal_in t.begun) ended }

-- after one more byte: the first ten bytes of a line in progress are kept
abbrev pub tally_after : Tally → ℕ → Tally
tally_after t byte = cond (byte == 10) (line_ended t) (record t { begun = cond (nat_lt (length t.begun) 10) (t.begun ++ byte ∷ []) t.begun })

-- after more bytes
abbrev pub tally_of : Tally → List ℕ → Tally
tally_of t [] = t
tally_of t (byte ∷ bytes) = tally_of (tally_after t byte) bytes

-- there are such lines
abbrev pub has_any : Refusals → Bool
has_any refusals = nat_lt 0 refusals.count

-- Some line is a refusal. The first count is that of the lines that are none.
abbrev pub has_refusals : Tally → Bool
has_refusals t = list_any has_any (slice_range t.refused 1 24)
