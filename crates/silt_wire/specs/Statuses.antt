-- The statuses with which jobs end.
use Rattle.std.specs.Prelude.{◌≡◌, ◌⊎◌, ℕ}

-- the status is 0, or 1 and this is so
abbrev pub IsStatus : Type 0 → ℕ → Type 0
IsStatus Told status = (status ≡ 0) ⊎ ((status ≡ 1) × Told)
