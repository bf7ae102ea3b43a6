-- Marks of places.
use Rattle.std.specs.Prelude.{◌≡◌, ℕ, ◌≤◌, ◌<◌, Bool, true, false, List, length, get_or}

-- the range from one place on and before another contains all marked places
pub record LieWithin (from to : ℕ) (marked : List Bool) : Type 0 where
  pub order : from ≤ to
  pub fits : to ≤ length marked
  pub low : (place : ℕ) → get_or marked place false ≡ true → from ≤ place
  pub high : (place : ℕ) → get_or marked place false ≡ true → place < to
