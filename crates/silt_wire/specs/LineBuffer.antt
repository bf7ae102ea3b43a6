-- The bytes of a line in progress.
use Rattle.std.specs.Prelude.{◌≡◌, ◌<◌, ◌≤◌, ℕ, List, [], ◌∷◌, length, take, MatchBool}
use Rattle.silt_wire.specs.Lines.{longest_line}
use Rattle.silt_wire.specs.declared.line_buffer.LineBuffer.{LineBuffer}
use Rattle.silt_wire.specs.declared.line_buffer.Taken.{Taken}
use Rattle.silt_wire.specs.Sessions.{lines_after, rest_after}

-- the bytes since the last line feed are these, or they are too many
abbrev pub HoldsBytes : LineBuffer → List ℕ → Type 0
HoldsBytes pending bytes = MatchBool pending.is_long (longest_line < length bytes) ((pending.line.items ≡ bytes) × (length bytes ≤ longest_line))

-- This many of the bytes were taken, after those of a line in progress. Either they end that line and no other, and the buffer has it; or
-- they are all of the bytes, and end no line.
pub record TakesPiece (begun bytes : List ℕ) (taken : Taken) (pending : LineBuffer) : Type 0 where
  pub lines : MatchBool taken.ends_line ((line : List ℕ) × HoldsBytes pending line × (lines_after begun (take taken.count bytes) ≡ line ∷ []))
      (HoldsBytes pending (rest_after begun (take taken.count bytes)) × (lines_after begun (take taken.count bytes) ≡ []))
  pub rest : MatchBool taken.ends_line (rest_after begun (take taken.count bytes) ≡ []) (taken.count ≡ length bytes)
