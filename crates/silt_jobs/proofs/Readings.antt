-- Taking bytes in two parts is taking them at once, and the values of a script's puts and swaps have their length.
use Rattle.silt_jobs.proofs.Common.{Err, IfOk, ◌≡◌, ◌≢◌, ◌+◌, take, drop, ℕ, true, false, None, Result, inl, inr, List, [], ◌∷◌, ◌++◌, refl, subst, Ok, HoldsBytes, lines_after, rest_after}
use Rattle.silt_jobs.proofs.Common.{HasValueOf, TakesBytes, Fits, All-push, All-nil, take-add, Event, LineFault, asked_by, is_blank, lines_after-append, piece-line, piece-open, TakesAsked}
use Rattle.silt_jobs.proofs.Common.{TakesLine, TakesLines, EndsReading, HasReadNothing, All, OnOk}
use Rattle.silt_wire.specs.declared.line.LineFault.TheVariants.{NoMemory}
use Rattle.silt_wire.specs.declared.line_buffer.LineBuffer.{LineBuffer}
use Rattle.silt_wire.specs.declared.line_buffer.Taken.{Taken}
use Rattle.silt_wire.specs.LineBuffer.{TakesPiece}
use Rattle.silt_wire.specs.Lines.{Parses}
use Rattle.silt_jobs.specs.Stops.{stop_of}
use Rattle.silt_jobs.specs.declared.jobs.script_lines.Reading.{Reading}
use Rattle.silt_jobs.specs.declared.jobs.script_lines.Script.{Script}

-- if memory did not run out, a line was parsed as what it asks for
parsed-is : (asked parsed : Result Event LineFault) → Parses asked parsed → parsed ≢ Err NoMemory → parsed ≡ asked
parsed-is asked parsed (inl is) reported = is
parsed-is asked parsed (inr wanted) reported = absurd (reported wanted.0)

-- a line that is not blank and no stop line is taken as what it asks for
pub TakesLine-asked : (value_len : ℕ) (line : List ℕ) (parsed : Result Event LineFault) (old new : Reading) → is_blank line ≡ false → stop_of line ≡ None → Parses (asked_by value_len line) parsed
    → parsed ≢ Err NoMemory → TakesAsked parsed old new → TakesLine value_len line old new
TakesLine-asked value_len line parsed old new live other parses reported takes =
    rw (live, other) (rw (parsed-is (asked_by value_len line) parsed parses reported) at takes)

-- the line that these bytes end is taken
pub TakesBytes-line : (value_len : ℕ) (begun bytes : List ℕ) (taken : Taken) (pending : LineBuffer) (old new : Reading) → taken.ends_line ≡ true → TakesPiece begun bytes taken pending
    → ((line : List ℕ) → HoldsBytes pending line → TakesLine value_len line old new) → TakesBytes value_len begun old (take taken.count bytes) new
TakesBytes-line value_len begun bytes taken pending old new e piece takes =
    let line = piece-line begun bytes taken pending e piece in rw line.2 (new, takes line.0 line.1, refl)

-- bytes that end no line are kept
pub TakesBytes-none : (value_len : ℕ) (begun bytes : List ℕ) (taken : Taken) (pending : LineBuffer) (reading : Reading) → taken.ends_line ≡ false → TakesPiece begun bytes taken pending
    → TakesBytes value_len begun reading (take taken.count bytes) reading
TakesBytes-none value_len begun bytes taken pending reading e piece = rw (piece-open begun bytes taken pending e piece).1 refl

TakesLines-append : (value_len : ℕ) (a b c : Reading) (xs ys : List (List ℕ)) → TakesLines value_len xs a b → TakesLines value_len ys b c → TakesLines value_len (xs ++ ys) a c
TakesLines-append value_len a b c [] ys h k = subst (λ s. TakesLines value_len ys s c) h k
TakesLines-append value_len a b c (x ∷ xs) ys h k = (h.0, h.1, TakesLines-append value_len h.0 b c xs ys h.2 k)

pub TakesBytes-append : (value_len : ℕ) (p : List ℕ) (a b c : Reading) (xs ys : List ℕ) → TakesBytes value_len p a xs b
    → TakesBytes value_len (rest_after p xs) b ys c → TakesBytes value_len p a (xs ++ ys) c
TakesBytes-append value_len p a b c xs ys h k =
    rw (lines_after-append p xs ys) (TakesLines-append value_len a b c (lines_after p xs) (lines_after (rest_after p xs) ys) h k)

-- one part more of a slice
pub TakesBytes-part : (value_len : ℕ) (p : List ℕ) (a b c : Reading) (bytes : List ℕ) (done count : ℕ) → TakesBytes value_len p a (take done bytes) b
    → TakesBytes value_len (rest_after p (take done bytes)) b (take count (drop done bytes)) c → TakesBytes value_len p a (take (done + count) bytes) c
TakesBytes-part value_len p a b c bytes done count h k = rw (take-add done count bytes) (TakesBytes-append value_len p a b c (take done bytes) (take count (drop done bytes)) h k)

-- what a line asks for fits, and so does the script with it
pub asked_fits : (value_len : ℕ) (asked : Result Event LineFault) (old new : Reading) → IfOk asked (HasValueOf value_len) → TakesAsked asked old new → Fits value_len old → Fits value_len new
asked_fits value_len (Ok event) old new fits takes before =
    record { lives = rw takes.lives before.lives; life = rw takes.life (All-push (HasValueOf value_len) old.life.items event before.life fits) }
asked_fits value_len (Err fault) old new fits takes before = record { lives = rw takes.lives before.lives; life = rw takes.life before.life }

-- what is known at Ok, weaker
pub on_ok-weaker : {T E : Type 0} {P Q : Type 0} (result : Result T E) → OnOk result P → (P → Q) → OnOk result Q
on_ok-weaker (Ok x) h step = step h
on_ok-weaker (Err e) h step = h

-- two facts of an Ok result are one
pub on_ok_both : {T E : Type 0} (P Q : Type 0) (result : Result T E) → OnOk result P → OnOk result Q → OnOk result (P × Q)
on_ok_both P Q (Ok x) first second = (first, second)
on_ok_both P Q (Err e) first second = first

-- no events fit
pub first_fits : (value_len : ℕ) (first : Reading) → HasReadNothing first → Fits value_len first
first_fits value_len first none = record { lives = rw none.lives (All-nil (λ life. All (HasValueOf value_len) life.items)); life = rw none.life (All-nil (HasValueOf value_len)) }

-- all lives of the script fit
pub ended_fits : (value_len : ℕ) (reading : Reading) (script : Script) → EndsReading reading script → Fits value_len reading → All (λ life. All (HasValueOf value_len) life.items) script.lives.items
ended_fits value_len reading script ends fits = rw ends.lives (All-push (λ life. All (HasValueOf value_len) life.items) reading.lives.items reading.life fits.lives fits.life)
