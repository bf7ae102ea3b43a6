-- The places and counts of a log in memory, from its fields, as places and counts of the log that it represents.
use Rattle.silt_log.proofs.Common.{◌≡◌, ℕ, ◌+◌, ◌-◌, List, length, take, ap, ◌∙◌, arith, length-take-le, commits_at, body_at, LogState, IsHeld}

-- the body after the rows
pub body_place : (fields log : LogState) (at : ℕ) → fields ≡ log → at ≡ body_at log.shape log.region fields.used → at ≡ body_at log.shape log.region log.used
body_place fields log at same is = is ∙ ap (λ (l : LogState). body_at log.shape log.region l.used) same

-- the first commit byte of a waiting row
pub waiting_place : (fields log : LogState) (commits from : ℕ) → fields ≡ log → commits ≡ commits_at fields.shape fields.region
    → from ≡ fields.settled → commits + from ≡ commits_at log.shape log.region + log.settled
waiting_place fields log commits from same is first = search arith

-- the buffer has a byte for each waiting row
pub waiting_count : (fields log : LogState) (buffer : List ℕ) → fields ≡ log → IsHeld fields (length buffer) → length (take (fields.used - fields.settled) buffer) ≡ log.used - log.settled
waiting_count fields log buffer same held = search (arith, length-take-le)

-- the commit byte past the first closed one
pub past_place : (fields log : LogState) (commits from : ℕ) → fields ≡ log → commits ≡ commits_at fields.shape fields.region
    → from ≡ fields.used + 1 → commits + from ≡ commits_at log.shape log.region + log.used + 1
past_place fields log commits from same is first = search arith

-- the buffer has each commit byte past the first closed one
pub past_count : (fields log : LogState) (capacity : ℕ) (buffer : List ℕ) → fields ≡ log → capacity ≡ fields.shape.log_capacity
    → IsHeld fields (length buffer) → length (take (capacity - (fields.used + 1)) buffer) ≡ log.shape.log_capacity - (log.used + 1)
past_count fields log capacity buffer same is held = search (arith, length-take-le)
