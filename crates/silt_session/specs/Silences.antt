-- When a client is silent for too long.
use Rattle.std.specs.Prelude.{◌==◌, ℕ, Bool, false, Option, Some, None, if◌then◌else◌, nat_le}

-- so many ticks have passed as the limit has seconds; 0 is no limit
abbrev pub is_silent : Option ℕ → ℕ → Bool
is_silent None ticks = false
is_silent (Some seconds) ticks = if seconds == 0 then false else nat_le seconds ticks
