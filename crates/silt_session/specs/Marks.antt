-- Which keys have requests that wait.
use Rattle.std.specs.Prelude.{◌≡◌, ℕ, ◌+◌, ◌*◌, ◌/◌, ◌%◌, get_or}
use Rattle.std.specs.Int.{bit_at}
use Rattle.silt_frame.specs.declared.key.Key.{Key}
use Rattle.silt_session.specs.declared.key_marks.KeyMarks.{KeyMarks}

-- the number of a key's mark: its first twelve bits
abbrev pub mark_of : Key → ℕ
mark_of key = get_or key.0 0 0 * 16 + get_or key.0 1 0 / 16

-- the mark with this number is set
abbrev pub IsMarked : KeyMarks → ℕ → Type 0
IsMarked marks number = bit_at (get_or marks.words (number / 64) 0) (number % 64) ≡ 1
