-- Commit bytes: a row, a manifest slot and the header each have one.
use Rattle.std.specs.Prelude.{ℕ, ◌==◌, Bool}

-- an open commit byte
abbrev pub commit_open : ℕ
commit_open = 0xA7

-- what closes a commit byte
abbrev pub commit_closed : ℕ
commit_closed = 0x00

-- a commit byte is open if and only if it is this byte
abbrev pub is_open : ℕ → Bool
is_open commit = commit == commit_open
